-- Equality keeps the truth. Assumes nothing.
use mathlib.Core.Path.{◌≡◌, refl, sym, ◌∙◌, ap, ap₂, fun_ext}
use Prim.Native.Nat.{ℕ}
use mathlib.Core.Bool.{Bool, true, false, ◌||◌, not, cond, true≢false, false≢true, not-not}
use mathlib.Core.List.{List, [], ◌∷◌, map}
use native.Mathlib.Omega.{arith}
use lib.Dec.{eqb}
use Rattle.meaning.specs.Lists.{all_of, any_of}
use Rattle.meaning.specs.Formula.{Formula, var, odd, opposite, is_var, mentions, right_of}
use Rattle.meaning.specs.WellFormed.{good_prefix, well_formed}
use Rattle.meaning.specs.Game.{Values, with_value, lit_true, clause_true, all_true, game, truth}
use Rattle.rules.specs.Simplify.{equality_permitted, replace_lit, replaced, equality_of, equality_raw}
use Rattle.meaning.proofs.Basics.{by_cases, clash, false_of, eqb-true, eqb-ne, eqb-false}
use Rattle.meaning.proofs.Game.{FreeOf, game-ext, exists-best, mentions-head, mentions-tail}
use Rattle.meaning.proofs.Literals.{lit-opp, lit-with, lit-with-other, var-opp}
use Rattle.meaning.proofs.Lists.{any-map, all_map}
use Rattle.rules.proofs.Place.{Place, place, last-exists, drop_here}
use Rattle.rules.proofs.Assign.{other-lit}
use Rattle.rules.proofs.Values.{Keeps}
use Rattle.meaning.proofs.Parts.{good_of}
use Rattle.meaning.proofs.Prefix.{good-out, good-tail, right-mentioned}
use Rattle.rules.proofs.Permitted.{EqualitySays, equality-says, TidyPair, tidy-pair, true-at}

-- right of --------------------------------------------------------------------------------------------------
pub right-not : (p : List ℕ) → good_prefix p ≡ true → (v w : ℕ) → mentions (right_of v p) w ≡ true → mentions (right_of w p) v ≡ false
unfolding right_of is_var
right-not [] good v w h = unfold mentions any_of in refl
right-not (q ∷ p) good v w h =
    by_cases (eqb (var q) v)
    (λ e. rw (apart (rw e at h)) (false_of _ (λ x. clash (right-mentioned w p v x) (rw (eqb-true (var q) v e) at (good-out q p good)))))
    (λ e. let inside : mentions (right_of v p) w ≡ true = rw e at h in rw (apart (right-mentioned v p w inside)) (right-not p (good-tail q p good) v w inside))
  where
    apart : mentions p w ≡ true → eqb (var q) w ≡ false
    apart i = eqb-ne (var q) w (λ x. clash i (rw x at (good-out q p good)))

-- One literal replaced by another ----------------------------------------------------------------------------
-- the value of k's variable that makes k what l is
abbrev like : ℕ → ℕ → Values → Bool
like k l τ = cond (odd k) (not (lit_true τ l)) (lit_true τ l)

lit-like : (k l : ℕ) (τ : Values) → lit_true (with_value τ (var k) (like k l τ)) k ≡ lit_true τ l
lit-like k l τ = lit-with τ k _ ∙ go (odd k) (lit_true τ l)
  where
    go : (s x : Bool) → cond s (not (cond s (not x) x)) (cond s (not x) x) ≡ x
    go true x = not-not x
    go false x = refl

lit-unlike : (k l : ℕ) (τ : Values) → lit_true (with_value τ (var k) (not (like k l τ))) k ≡ not (lit_true τ l)
lit-unlike k l τ = lit-with τ k _ ∙ go (odd k) (lit_true τ l)
  where
    go : (s x : Bool) → cond s (not (not (cond s (not x) x))) (not (cond s (not x) x)) ≡ not x
    go true x = not-not (not x)
    go false x = refl

lit-replace : (k l : ℕ) (τ : Values) (i : ℕ) → lit_true (with_value τ (var k) (like k l τ)) i ≡ lit_true τ (replace_lit k l i)
unfolding replace_lit
lit-replace k l τ i =
    by_cases (eqb i k)
    (λ e. (ap (lit_true (with_value τ (var k) (like k l τ))) (eqb-true i k e) ∙ lit-like k l τ) ∙ sym (rw e))
    (λ e. by_cases (eqb i (opposite k))
    (λ o. (ap (lit_true (with_value τ (var k) (like k l τ))) (eqb-true i _ o) ∙ (lit-opp (with_value τ (var k) (like k l τ)) k ∙ (ap not (lit-like k l τ) ∙ sym (lit-opp τ l))))
    ∙ sym (rw e (rw o)))
    (λ o. lit-with-other τ (var k) i _ (eqb-ne (var i) (var k) (λ v. eqb-false i _ o (other-lit k i v (eqb-ne k i (λ x. eqb-false i k e (sym x))))))
    ∙ sym (rw e (rw o))))

replace-true : (k l : ℕ) (cs : List (List ℕ)) (τ : Values) → all_true cs (with_value τ (var k) (like k l τ)) ≡ all_true (map (map (replace_lit k l)) cs) τ
unfolding all_true clause_true
replace-true k l cs τ =
    ap (λ (f : List ℕ → Bool). all_of f cs) (fun_ext (λ c. rw (fun_ext (lit-replace k l τ)) (sym (any-map _ _ c)))) ∙ sym (all_map _ _ cs)

module _ (φ : Formula) (k l : ℕ) (at : Place φ.prefix (var k)) where
  -- k is of an existential, l does not stand right of it, and the clauses say that k is l
  pub replaced-keeps : odd at.entry ≡ false → mentions at.right (var l) ≡ false → eqb (var l) (var k) ≡ false
      → ((τ : Values) → all_true φ.clauses τ ≡ true → lit_true τ k ≡ lit_true τ l) → Keeps φ (replaced k l φ)
  unfolding truth replaced
  replaced-keeps ev away apart agree = drop_here _ (var k) at (all_true φ.clauses) (all_true (map (map (replace_lit k l)) φ.clauses)) here
    where
      at_entry : (b : Bool) (τ : Values) → all_true φ.clauses (with_value τ (var at.entry) b) ≡ all_true φ.clauses (with_value τ (var k) b)
      at_entry b τ = ap (λ (v : ℕ). all_true φ.clauses (with_value τ v b)) at.is

      free : FreeOf at.right (like k l)
      free v h σ b = rw (lit-with-other σ v l b (eqb-ne (var l) v (λ e. clash (rw e h) away)))

      flip : (x : Bool) → not x ≡ x → ⊥
      flip true h = false≢true h
      flip false h = true≢false h

      never : (τ : Values) → all_true φ.clauses (with_value τ (var k) (not (like k l τ))) ≡ true → ⊥
      never τ t = flip (lit_true τ l) (sym (lit-unlike k l τ) ∙ (agree (with_value τ (var k) (not (like k l τ))) t ∙ lit-with-other τ (var k) l _ apart))

      here : (σ : Values) → game (at.entry ∷ at.right) (all_true φ.clauses) σ ≡ game at.right (all_true (map (map (replace_lit k l)) φ.clauses)) σ
      here σ =
          exists-best _ _ (rw at.is at.right-out) _ free _ ev (λ τ t. absurd (never τ (sym (at_entry (not (like k l τ)) τ) ∙ t))) σ
          ∙ game-ext _ _ _ (λ τ. at_entry (like k l τ) τ ∙ replace-true k l φ.clauses τ) σ

-- 5. Equality ------------------------------------------------------------------------------------------------
-- from (k l) and its opposite: one of the two is true, and one is false
one_each : (x y : Bool) → (x || (y || false)) ≡ true → (not x || (not y || false)) ≡ true → x ≡ not y
one_each true true h i = absurd (false≢true i)
one_each true false h i = refl
one_each false true h i = refl
one_each false false h i = absurd (false≢true h)

pub equality-keeps : (φ : Formula) → well_formed φ ≡ true → (a b : ℕ) → equality_permitted φ a b ≡ true → Keeps φ (equality_raw φ a)
unfolding equality_raw equality_of
equality-keeps φ w a b h =
    rw s.is-a (by_cases (mentions (right_of (var k) φ.prefix) (var l))
    (λ r. rw r (replaced-keeps φ l _ at-l (exists-at l at-l (two at-l.right (free-k r) at-l.right-out) (mentions-tail k (l ∷ []) (var l) (mentions-head l [])))
    (ap (mentions at-l.right) (var-opp k) ∙ free-k r) (ap (λ (v : ℕ). eqb v (var l)) (var-opp k) ∙ eqb-ne (var k) (var l) (λ e. omega (arith, t.below))) (λ τ c. flip (agree τ c) ∙ sym (lit-opp τ k))))
    (λ r. rw r (replaced-keeps φ k _ at-k (exists-at k at-k (two at-k.right at-k.right-out (free-l r)) (mentions-head k (l ∷ [])))
    (ap (mentions at-k.right) (var-opp l) ∙ free-l r) (ap (λ (v : ℕ). eqb v (var k)) (var-opp l) ∙ eqb-ne (var l) (var k) (λ e. omega (arith, t.below))) (λ τ c. agree τ c ∙ sym (lit-opp τ l)))))
  where
    s : EqualitySays φ a b
    s = equality-says φ a b h

    k : ℕ
    k = s.k

    l : ℕ
    l = s.l

    t : TidyPair φ k l
    t = tidy-pair φ w a b s

    at-k : Place φ.prefix (var k)
    at-k = place _ (var k) (good_of φ w) t.in-k

    at-l : Place φ.prefix (var l)
    at-l = place _ (var l) (good_of φ w) t.in-l

    free-k : mentions (right_of (var k) φ.prefix) (var l) ≡ true → mentions at-l.right (var k) ≡ false
    free-k r = rw at-l.behind at (right-not φ.prefix (good_of φ w) (var k) (var l) r)

    free-l : mentions (right_of (var k) φ.prefix) (var l) ≡ false → mentions at-k.right (var l) ≡ false
    free-l r = rw at-k.behind at r

    two : (r : List ℕ) → mentions r (var k) ≡ false → mentions r (var l) ≡ false → any_of (λ i. mentions r (var i)) (k ∷ l ∷ []) ≡ false
    two r x y = unfold any_of in ap₂ ◌||◌ x (rw y)

    exists-at : (i : ℕ) (at : Place φ.prefix (var i)) → any_of (λ j. mentions at.right (var j)) (k ∷ l ∷ []) ≡ false → mentions (k ∷ l ∷ []) (var i) ≡ true
        → odd at.entry ≡ false
    exists-at i at far inside = last-exists _ (var i) at (k ∷ l ∷ []) t.stays inside far

    agree : (τ : Values) → all_true φ.clauses τ ≡ true → lit_true τ k ≡ not (lit_true τ l)
    agree τ c =
        one_each _ (lit_true τ l) (unfold clause_true any_of in rw s.is-a at (true-at _ a s.there-a τ c))
        (unfold clause_true any_of in rw (s.is_b, lit-opp τ k, lit-opp τ l) at (true-at _ b s.there-b τ c))

    flip : {x y : Bool} → x ≡ not y → y ≡ not x
    flip {x} {y} e = sym (not-not y) ∙ ap not (sym e)
