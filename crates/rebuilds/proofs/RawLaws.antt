-- Laws of the loop over the source's clauses.
-- Assumes nothing.
use Prim.Native.Nat.{ℕ, ◌+◌, ◌≤◌, ◌<◌}
use mathlib.Core.Path.{◌≡◌, refl, sym, ap, ◌∙◌, subst}
use mathlib.Core.Bool.{Bool, true, false, not}
use mathlib.Core.List.{List, [], ◌++◌, append-nil}
use lib.ListN.{length, get_or, take, drop, drop_of_length-le}
use lib.Seq.{drop-cons}
use native.Mathlib.Numerals.{add-one}
use lib.Dec.{leb}
use Rattle.meaning.specs.Lists.{all_of}
use Rattle.meaning.specs.Formula.{Formula, var, odd, drop_var}
use Rattle.meaning.specs.Tidy.{kept, tidy, build_on, build, tidied}
use Rattle.meaning.specs.WellFormed.{good_prefix, well_formed, max_variables}
use Rattle.table.specs.Table.{decode, with_new_clause, with_raw, Holds}
use Rattle.table.specs.Answer.{Became, Built}
use Rattle.table.specs.Ranks.{ranks_of, good_entries, Ranked}
use Rattle.table.specs.declared.Counts.{Counts}
use Rattle.std.specs.Prelude.{Option, Some, None}
use Rattle.rebuilds.specs.Raws.{bare, with_raws, Going}
use Rattle.recipes.specs.Recipe.{Ready, taken, fed, raw_by, raws_by, remade}
use Rattle.recipes.specs.Left.{Shrunk}
use Rattle.recipes.specs.declared.Which.{Which}
use Rattle.recipes.specs.declared.Turn.{Turn}
use Rattle.meaning.proofs.Basics.{and_i}
use Rattle.meaning.proofs.Parts.{good_of, room_of}
use Rattle.rules.proofs.Good.{good-drop}
use Rattle.table.proofs.HoldLaws.{prefix-is}
use Rattle.table.proofs.DecodeLaws.{decode-holds}
use Rattle.permits.proofs.PlaceLaws.{good-entries}
use Rattle.rebuilds.proofs.BuildLaws.{built_of, built-there, built-done, going_next, going-full, going_end}

-- the ranks of a held formula's prefix
module _ {ψ : Formula} {t ranks : List ℕ} {d : Counts} (h : Holds ψ t d) (r : Ready (take d.variables t) ranks) where
  pub ready-good : good_prefix ψ.prefix ≡ true
  ready-good = ap good_prefix (sym (prefix-is h)) ∙ good-entries (take d.variables t) r.good

  pub ready-ranks : ranks ≡ ranks_of ψ.prefix
  ready-ranks = r.ranked ∙ ap ranks_of (prefix-is h)

  -- the same prefix in another table
  pub ready-as : {χ : Formula} {t' : List ℕ} {e : Counts} → Holds χ t' e → χ.prefix ≡ ψ.prefix → Ready (take e.variables t') ranks
  ready-as {χ} {t'} {e} k q = subst (λ (p : List ℕ). Ready p ranks) (prefix-is h ∙ sym q ∙ sym (prefix-is k)) r

-- One clause ------------------------------------------------------------------------------------------------------
-- what becomes of it, over the prefix in the table
pub fed-here : (u : Turn) {ψ : Formula} {t : List ℕ} {d : Counts} → Holds ψ t d → (i : ℕ) (c : List ℕ) (s : Bool) (r : Option Counts) (t' : List ℕ)
    → Became ψ (with_raw ψ (fed u (take d.variables t) i c)) s r t' → Became ψ (with_raw ψ (fed u ψ.prefix i c)) s r t'
fed-here u {ψ} {t} {d} h i c s r t' k = subst (λ (p : List ℕ). Became ψ (with_raw ψ (fed u p i c)) s r t') (prefix-is h) k

module _ (w : Which) (u : Turn) {ψ : Formula} {t : List ℕ} {d : Counts} (h : Holds ψ t d) (i : ℕ) (c : List ℕ) (b : Bool) (is : b ≡ taken w (take d.variables t) i c) where
  taken_is : taken w ψ.prefix i c ≡ b
  taken_is = ap (λ (p : List ℕ). taken w p i c) (sym (prefix-is h)) ∙ sym is

  pub one_left : b ≡ false → Built (with_raws ψ (raw_by w u ψ.prefix i c)) d.second (Some d) t
  unfolding raw_by with_raws build_on
  one_left n = rw (taken_is, n) (built-there h)

  pub one-changed : b ≡ true → (r : Option Counts) (t' : List ℕ) → Became ψ (with_raw ψ (fed u ψ.prefix i c)) d.second r t' → Built (with_raws ψ (raw_by w u ψ.prefix i c)) d.second r t'
  unfolding raw_by with_raws build_on with_raw
  one-changed n r t' k = rw (taken_is, n) (built_of k)

  pub one-taken : b ≡ true → (r : Option Counts) (t' : List ℕ) → Became ψ (with_raw ψ (fed u (take d.variables t) i c)) d.second r t' → Built (with_raws ψ (raw_by w u ψ.prefix i c)) d.second r t'
  one-taken n r t' k = one-changed n r t' (fed-here u h i c d.second r t' k)

  -- a clause that lasts comes as it stands
  stands : tidy ψ.prefix (fed u ψ.prefix i c) ≡ kept c → with_new_clause ψ c ≡ with_raw ψ (fed u ψ.prefix i c)
  unfolding with_raw with_new_clause
  stands e = rw e

  pub one-stays : b ≡ true → tidy ψ.prefix (fed u ψ.prefix i c) ≡ kept c → (r : Option Counts) (t' : List ℕ) → Became ψ (with_new_clause ψ c) d.second r t' → Built (with_raws ψ (raw_by w u ψ.prefix i c)) d.second r t'
  one-stays n e r t' k = one-changed n r t' (subst (λ (χ : Formula). Became ψ χ d.second r t') (stands e) k)

-- All clauses -----------------------------------------------------------------------------------------------------
module _ (w : Which) (u : Turn) (ψ : Formula) (cs : List (List ℕ)) {all : List (List ℕ)} (b : Bool) (t : List ℕ) (e : Counts) (i : ℕ)
    (g : Going ψ all (raws_by w u ψ.prefix i (drop i cs)) b t e) where
  pub all_end : length cs ≤ i → Built (with_raws ψ all) b (Some e) t
  unfolding raws_by
  all_end h = going_end ψ all (raws_by w u ψ.prefix i (drop i cs)) b t e g (rw (drop_of_length-le cs {i = i} h))

  -- the rest at once
  pub all-on : (r : Option Counts) (t' : List ℕ) → Built (with_raws g.formula (raws_by w u g.formula.prefix i (drop i cs))) e.second r t' → Built (with_raws ψ all) b r t'
  all-on r t' k =
      let p : Built (with_raws g.formula (raws_by w u ψ.prefix i (drop i cs))) e.second r t' =
      subst (λ (x : List ℕ). Built (with_raws g.formula (raws_by w u x i (drop i cs))) e.second r t') g.prefix k in
      rw (g.second, g.left) at p

  module _ (h : i < length cs) (c : List ℕ) (is : c ≡ get_or cs i []) (r : Option Counts) (t' : List ℕ) (k : Built (with_raws g.formula (raw_by w u g.formula.prefix i c)) e.second r t') where
    split : raws_by w u ψ.prefix i (drop i cs) ≡ raw_by w u ψ.prefix i c ++ raws_by w u ψ.prefix (i + 1) (drop (i + 1) cs)
    unfolding raws_by
    split = rw (add-one, drop-cons cs i [] h, is)

    built : Built (with_raws g.formula (raw_by w u ψ.prefix i c)) e.second r t'
    built = subst (λ (p : List ℕ). Built (with_raws g.formula (raw_by w u p i c)) e.second r t') g.prefix k

    pub all-next : (e' : Counts) → r ≡ Some e' → Going ψ all (raws_by w u ψ.prefix (i + 1) (drop (i + 1) cs)) b t' e'
    all-next = going_next ψ all (raws_by w u ψ.prefix i (drop i cs)) b t e g (raw_by w u ψ.prefix i c) (raws_by w u ψ.prefix (i + 1) (drop (i + 1) cs)) split r t' built

    pub all-full : r ≡ None → Built (with_raws ψ all) b None t'
    all-full = going-full ψ all (raws_by w u ψ.prefix i (drop i cs)) b t e g (raw_by w u ψ.prefix i c) (raws_by w u ψ.prefix (i + 1) (drop (i + 1) cs)) split r t' built

-- The whole ---------------------------------------------------------------------------------------------------------
pub ranked-ready : {ψ : Formula} {t : List ℕ} {d : Counts} → Holds ψ t d → good_prefix ψ.prefix ≡ true → (r : Bool) (ranks : List ℕ) → Ranked (take d.variables t) r ranks → Ready (take d.variables t) ranks
unfolding good_entries
ranked-ready {ψ} {t} {d} h g r ranks k =
    let good : good_entries (take d.variables t) ≡ true =
    ap good_entries (prefix-is h) ∙ and_i (good_prefix ψ.prefix) (all_of (λ q. leb (var q) max_variables) ψ.prefix) g (room_of ψ h.fitting).numbers in
    record { good = good; ranked = k.table (k.answer ∙ good) }

pub copied-good : {φ : Formula} {t : List ℕ} {c : Counts} → Holds φ t c → good_prefix (take c.variables t) ≡ true → (v : ℕ) → good_prefix (bare (drop_var v φ.prefix)).prefix ≡ true
unfolding bare
copied-good {φ} {t} {c} h g v = good-drop v φ.prefix (ap good_prefix (sym (prefix-is h)) ∙ g)

pub remade-built : (w : Which) (u : Turn) (v : ℕ) (φ : Formula) (s b : Bool) (r : Option Counts) (t : List ℕ) → Built (with_raws (bare (drop_var v φ.prefix)) (raws_by w u (bare (drop_var v φ.prefix)).prefix 0 φ.clauses)) s r t → s ≡ b → Built (tidied (remade w u v φ)) b r t
unfolding bare with_raws tidied build remade
remade-built w u v φ s b r t k e = rw e at k

-- the ranks are still those of the prefix once raw clauses are added
pub ready-after : {ψ : Formula} {t ranks : List ℕ} {d : Counts} → Holds ψ t d → Ready (take d.variables t) ranks → (raws : List (List ℕ)) (s : Bool) (r : Option Counts) (t' : List ℕ) → Built (with_raws ψ raws) s r t' → (e : Counts) → r ≡ Some e → Ready (take e.variables t') ranks
unfolding with_raws
ready-after {ψ} {t} {ranks} {d} h q raws s r t' k e p = ready-as h q (built-done (with_raws ψ raws) s r t' k e p) refl

-- A prefix that is the source's without v --------------------------------------------------------------------------------
-- the same prefix elsewhere
pub shrunk-as : {v : ℕ} {φ ψ : Formula} {t : List ℕ} {d : Counts} → Holds ψ t d → Shrunk v (take d.variables t) φ → (p : List ℕ) → p ≡ ψ.prefix → Shrunk v p φ
shrunk-as {v} {φ} {ψ} {t} {d} h s p e = subst (λ (x : List ℕ). Shrunk v x φ) (prefix-is h ∙ sym e) s

pub shrunk-after : {v : ℕ} {φ ψ : Formula} {t : List ℕ} {d : Counts} → Holds ψ t d → Shrunk v (take d.variables t) φ → (raws : List (List ℕ)) (s : Bool) (r : Option Counts) (t' : List ℕ) → Built (with_raws ψ raws) s r t' → (e : Counts) → r ≡ Some e → Shrunk v (take e.variables t') φ
unfolding with_raws
shrunk-after {v} {φ} {ψ} {t} {d} h q raws s r t' k e p = shrunk-as h q (take e.variables t') (prefix-is (built-done (with_raws ψ raws) s r t' k e p))

module _ {φ : Formula} {source : List ℕ} {c : Counts} (h : Holds φ source c) (w : well_formed (decode source c) ≡ true) where
  pub source-good : good_prefix (take c.variables source) ≡ true
  unfolding decode
  source-good = good_of (decode source c) w

  -- it is copied, and existentials come at its right end
  pub shrunk-more : (v : ℕ) (more : List ℕ) → all_of (λ e. not (odd e)) more ≡ true → (q : List ℕ) → q ≡ drop_var v φ.prefix ++ more → Shrunk v q (decode source c)
  shrunk-more v more x q e = record { well = w; more = more; prefix = e ∙ ap (λ (χ : Formula). drop_var v χ.prefix ++ more) (sym (decode-holds φ source c h)); exist = x }

  -- it is copied
  pub shrunk-copied : (v : ℕ) {t : List ℕ} {d : Counts} → Holds (bare (drop_var v φ.prefix)) t d → Shrunk v (take d.variables t) (decode source c)
  unfolding bare all_of
  shrunk-copied v {t} {d} k = shrunk-more v [] refl (take d.variables t) (prefix-is k ∙ sym (append-nil (drop_var v φ.prefix)))
