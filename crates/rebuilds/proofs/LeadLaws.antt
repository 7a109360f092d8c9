-- The clauses up to the first that changes: the target has no clause but those of the source that were copied.
-- Assumes nothing.
use Prim.Native.Nat.{ℕ, ◌+◌, ◌<◌}
use mathlib.Core.Path.{◌≡◌, subst}
use mathlib.Core.Bool.{Bool, true}
use mathlib.Core.List.{List, [], ◌∷◌, ◌++◌}
use lib.ListN.{get_or, take, drop}
use Rattle.meaning.specs.Formula.{Formula}
use Rattle.table.specs.Table.{decode, with_clause, with_new_clause, Holds}
use Rattle.table.specs.Answer.{Became, Built}
use Rattle.table.specs.declared.Counts.{Counts}
use Rattle.std.specs.Prelude.{Option, Some, None}
use Rattle.filter.specs.Filter.{CoversBut, Among}
use Rattle.filter.proofs.AmongLaws.{among-new, among-more}
use Rattle.rebuilds.specs.Raws.{with_raws, Going}
use Rattle.recipes.specs.Recipe.{taken, raw_by, raws_by}
use Rattle.recipes.specs.Left.{left, Lasts}
use Rattle.rebuilds.specs.Lead.{Led}
use Rattle.recipes.specs.declared.Which.{Which}
use Rattle.recipes.specs.declared.Turn.{Turn}
use Rattle.rebuilds.proofs.RawLaws.{one-stays}
use Rattle.rebuilds.proofs.LeftLaws.{next-taken}

-- One clause ------------------------------------------------------------------------------------------------------
module _ (w : Which) (u : Turn) {ψ : Formula} {t : List ℕ} {d : Counts} (h : Holds ψ t d) {others : List (List ℕ)} (k : Among others t d) (i : ℕ) (c : List ℕ)
    (b : Bool) (is : b ≡ taken w (take d.variables t) i c) where
  module _ {v : ℕ} (l : Lasts u v ψ.prefix others i c) (n : b ≡ true) (m : left u v i c ≡ true) (r : Option Counts) (t' : List ℕ) (p : Became ψ (with_clause ψ c) d.second r t') where
    new : Became ψ (with_new_clause ψ c) d.second r t'
    new = among-new h k c l.apart r t' p

    pub copied-built : Built (with_raws ψ (raw_by w u ψ.prefix i c)) d.second r t'
    copied-built = one-stays w u h i c b is n (l.stays m) r t' new

    pub copied-among : (e : Counts) → r ≡ Some e → Among (others ++ (c ∷ [])) t' e
    copied-among e q = among-more h k c d.second r t' new e q

-- All clauses -----------------------------------------------------------------------------------------------------
module _ {φ : Formula} {source : List ℕ} {c : Counts} (h : Holds φ source c) (i : ℕ) (few : i < c.clauses) (x : List ℕ)
    (read : (χ : Formula) → Holds χ source c → x ≡ get_or χ.clauses i []) where
  pub among_next : {t : List ℕ} {d : Counts} → Among (take i (decode source c).clauses ++ (x ∷ [])) t d → Among (take (i + 1) (decode source c).clauses) t d
  among_next {t} {d} k = rw (next-taken h i few x read) at k

-- by the answer
module _ (w : Which) (u : Turn) (cs : List (List ℕ)) (ψ : Formula) (s : Bool) (r : Option (ℕ × Counts)) (t' : List ℕ) (k : Led w u cs ψ s r t') where
  pub led-upto : (p : ℕ × Counts) → r ≡ Some p → Going ψ (raws_by w u ψ.prefix 0 cs) (raws_by w u ψ.prefix p.0 (drop p.0 cs)) s t' p.1
  unfolding Led
  led-upto p q = rw q at k

  pub led-over : r ≡ None → Built (with_raws ψ (raws_by w u ψ.prefix 0 cs)) s None t'
  unfolding Led
  led-over q = rw q at k

-- the clauses before i, by the answer
pub upto-same : (cs : List (List ℕ)) {t f : List ℕ} (i : ℕ) (e : Counts) → CoversBut (take i cs) t e f → (j : ℕ) (d : Counts) → ◌≡◌ {A = Option (ℕ × Counts)} (Some (i, e)) (Some (j, d)) → CoversBut (take j cs) t d f
upto-same cs {t} {f} i e k j d q =
    let a : ◌≡◌ {A = ℕ × Counts} (i, e) (j, d) = cc in
    subst (λ (p : ℕ × Counts). CoversBut (take p.0 cs) t p.1 f) a k
