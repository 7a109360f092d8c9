-- The layout by places: the loops and returns of src/layout.rt, and what the test says.
-- Assumes nothing.
use Prim.Native.Nat.{ℕ, ◌+◌, ◌≤◌, ◌<◌}
use mathlib.Core.Path.{◌≡◌, sym, ◌∙◌}
use mathlib.Core.Bool.{Bool, true, false, ◌&&◌}
use mathlib.Core.List.{List}
use lib.ListN.{length, get_or, drop, drop_of_length-le}
use lib.Seq.{drop-cons}
use lib.Dec.{eqb, leb}
use borrow.Author.Tests.{eq-eqb, ne_eqb, le-leb, lt-leb, eqb-true, leb-true}
use native.Mathlib.Numerals.{add-one}
use Rattle.judging.specs.Layout.{all_zero, ends_up_to, part, layout_ok}
use Rattle.table.specs.declared.Counts.{Counts}
use Rattle.meaning.proofs.Basics.{by_cases, and_l, and_r}

-- The loop over ends ---------------------------------------------------------------------------------------------------
module _ (s : List ℕ) (k m i : ℕ) (inv : ends_up_to 0 s m ≡ ends_up_to k (drop i s) m) where
  pub ends-turn : i < length s → k ≤ get_or s i 0 → ends_up_to 0 s m ≡ ends_up_to (get_or s i 0) (drop (i + 1) s) m
  unfolding ends_up_to
  ends-turn h e = inv ∙ rw (add-one, drop-cons s i 0, le-leb k (get_or s i 0) e)

  pub ends-fall : i < length s → get_or s i 0 < k → false ≡ ends_up_to 0 s m
  unfolding ends_up_to
  ends-fall h e = sym (inv ∙ rw (drop-cons s i 0, lt-leb k (get_or s i 0) e))

  pub ends-end : length s ≤ i → eqb k m ≡ ends_up_to 0 s m
  unfolding ends_up_to
  ends-end h = sym (inv ∙ rw (drop_of_length-le s {i = i} h))

-- The returns -------------------------------------------------------------------------------------------------
module _ (t : List ℕ) (c : Counts) where
  pub not-long : (length t ≡ 11261 → ⊥) → false ≡ layout_ok t c
  unfolding layout_ok
  not-long e = rw (ne_eqb _ _ e)

  module _ (e₀ : length t ≡ 11261) where
    pub not-variables : 1023 < c.variables → false ≡ layout_ok t c
    unfolding layout_ok
    not-variables e = rw (eq-eqb _ _ e₀, lt-leb _ _ e)

    module _ (e₁ : c.variables ≤ 1023) where
      pub not-clauses : 2047 < c.clauses → false ≡ layout_ok t c
      unfolding layout_ok
      not-clauses e = rw (eq-eqb _ _ e₀, le-leb _ _ e₁, lt-leb _ _ e)

      module _ (e₂ : c.clauses ≤ 2047) where
        pub not-literals : 8191 < c.literals → false ≡ layout_ok t c
        unfolding layout_ok
        not-literals e = rw (eq-eqb _ _ e₀, le-leb _ _ e₁, le-leb _ _ e₂, lt-leb _ _ e)

        module _ (e₃ : c.literals ≤ 8191) where
          -- the three stretches of unused places, and the ends
          pub not-zero : ((all_zero (part t c.variables 1023) && all_zero (part t (1023 + c.clauses) 3070)) && all_zero (part t (3070 + c.literals) 11261)) ≡ false → false ≡ layout_ok t c
          unfolding layout_ok
          not-zero e =
              rw (eq-eqb _ _ e₀, le-leb _ _ e₁, le-leb _ _ e₂, le-leb _ _ e₃)
              (by_cases (all_zero (part t c.variables 1023))
              (λ a. by_cases (all_zero (part t (1023 + c.clauses) 3070)) (λ b. let z = rw (a, b) at e in rw (a, b, z)) (λ b. rw (a, b)))
              (λ a. rw a))

          pub ends-tell : ((all_zero (part t c.variables 1023) && all_zero (part t (1023 + c.clauses) 3070)) && all_zero (part t (3070 + c.literals) 11261)) ≡ true
              → (r : Bool) → r ≡ ends_up_to 0 (part t 1023 (1023 + c.clauses)) c.literals → r ≡ layout_ok t c
          unfolding layout_ok
          ends-tell e r q =
              let l = and_l _ (all_zero (part t (3070 + c.literals) 11261)) e in
              rw (
                eq-eqb _ _ e₀,
                le-leb _ _ e₁,
                le-leb _ _ e₂,
                le-leb _ _ e₃,
                and_l (all_zero (part t c.variables 1023)) _ l,
                and_r (all_zero (part t c.variables 1023)) _ l,
                and_r (all_zero (part t c.variables 1023) && all_zero (part t (1023 + c.clauses) 3070)) _ e,
              )
              q

-- What the test says ------------------------------------------------------------------------------------------
pub record Laid (t : List ℕ) (c : Counts) : Type 0 where
  pub long : length t ≡ 11261
  pub variables : c.variables ≤ 1023
  pub clauses : c.clauses ≤ 2047
  pub literals : c.literals ≤ 8191
  pub zero-1 : all_zero (part t c.variables 1023) ≡ true
  pub zero-2 : all_zero (part t (1023 + c.clauses) 3070) ≡ true
  pub zero-3 : all_zero (part t (3070 + c.literals) 11261) ≡ true
  pub ends : ends_up_to 0 (part t 1023 (1023 + c.clauses)) c.literals ≡ true

pub laid : (t : List ℕ) (c : Counts) → layout_ok t c ≡ true → Laid t c
unfolding layout_ok
laid t c h =
    let h₁ = and_r (eqb (length t) 11261) _ h in
    let h₂ = and_r (leb c.variables 1023) _ h₁ in
    let h₃ = and_r (leb c.clauses 2047) _ h₂ in
    let h₄ = and_r (leb c.literals 8191) _ h₃ in
    let h₅ = and_r (all_zero (part t c.variables 1023)) _ h₄ in
    let h₆ = and_r (all_zero (part t (1023 + c.clauses) 3070)) _ h₅ in
    record {
      long = eqb-true _ _ (and_l (eqb (length t) 11261) _ h);
      variables = leb-true _ _ (and_l (leb c.variables 1023) _ h₁);
      clauses = leb-true _ _ (and_l (leb c.clauses 2047) _ h₂);
      literals = leb-true _ _ (and_l (leb c.literals 8191) _ h₃);
      zero-1 = and_l (all_zero (part t c.variables 1023)) _ h₄;
      zero-2 = and_l (all_zero (part t (1023 + c.clauses) 3070)) _ h₅;
      zero-3 = and_l (all_zero (part t (3070 + c.literals) 11261)) _ h₆;
      ends = and_r (all_zero (part t (3070 + c.literals) 11261)) _ h₆;
    }

pub of-laid : (t : List ℕ) (c : Counts) → Laid t c → layout_ok t c ≡ true
of-laid t c l =
    sym (ends-tell t c l.long l.variables l.clauses l.literals (rw (l.zero-1, l.zero-2, l.zero-3)) true (sym l.ends))
