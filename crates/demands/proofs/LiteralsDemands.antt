-- `literals` and `literals_number`, from their contracts alone.
-- Assumes nothing.
use mathlib.Core.Path.{◌≡◌, refl, sym, ◌∙◌}
use mathlib.Core.Bool.{false}
use mathlib.Core.List.{List, []}
use Prim.Native.Nat.{ℕ}
use native.Mathlib.Omega.{arith}
use Rattle.judging.specs.declared.Unfit.TheVariants as said
use Rattle.std.specs.Prelude.{Ok, Err}
use Rattle.table.specs.Lent.{named, right_lengths}
use Rattle.judging.specs.Check.{Asked, judged, good_table, asked, asked_number, literals_part}
use Rattle.table.specs.declared.Counts.{Counts}
use Rattle.standing.specs.Standing.{formula_in}
use Rattle.demands.specs.Demands.{LiteralsDemands, NumberDemands}
use Rattle.meaning.proofs.Basics.{by_cases}
use Rattle.table.proofs.HoldLaws.{literals-are}
use Rattle.judging.proofs.LiteralLaws.{given_holds, given-part, none_given}

module _ (a b : List ℕ) (c : Counts) where
  pub literals-once : (part other : List ℕ) → part ≡ literals_part a b c → other ≡ literals_part a b c → part ≡ other
  literals-once part other e d = e ∙ sym d

  pub literals-demands : (part : List ℕ) → part ≡ literals_part a b c → LiteralsDemands a b c part
  unfolding formula_in
  literals-demands part e =
      record {
        given = λ g. let k = e ∙ given-part a b c (asked a b c) refl g in (k, k ∙ sym (literals-are (given_holds a b c (asked a b c) refl g)));
        refuses = go (asked a b c) refl;
      }
    where
      go : (s : Asked) → asked a b c ≡ s → (s ≡ Ok tt → ⊥) → part ≡ []
      go (Ok u) g n = absurd (n refl)
      go (Err u) g n = e ∙ sym (none_given a b c (asked a b c) refl u g)

  pub number-once : (n m : ℕ) → n ≡ asked_number (asked a b c) → m ≡ asked_number (asked a b c) → n ≡ m
  number-once n m e d = e ∙ sym d

  -- the lengths are wrong where it is said
  wrong-lengths : asked a b c ≡ Err said.WrongLength → right_lengths a b ≡ false
  unfolding asked judged
  wrong-lengths g =
      by_cases (right_lengths a b)
      (λ l.
      by_cases (good_table (named a b c) c)
      (λ t. let z : Ok tt ≡ Err said.WrongLength = rw (l, t) at g in let y : ◌≡◌ {A = ℕ} 0 1 = cc in absurd (omega arith))
      (λ t. let z : Err said.Malformed ≡ Err said.WrongLength = rw (l, t) at g in let y : ◌≡◌ {A = ℕ} 0 1 = cc in absurd (omega arith)))
      (λ l. l)

  pub number-demands : (n : ℕ) → n ≡ asked_number (asked a b c) → NumberDemands a b c n
  number-demands n e = go (asked a b c) refl
    where
      go : (s : Asked) → asked a b c ≡ s → NumberDemands a b c n
      go (Ok u) g = let k : n ≡ 0 = e ∙ (unfold asked_number in rw g) in
          record { given = λ _. g; length = λ z. absurd (omega arith); malformed = λ z. absurd (omega arith); only = omega arith }
      go (Err said.WrongLength) g = let k : n ≡ 1 = e ∙ (unfold asked_number in rw g) in
          record { given = λ z. absurd (omega arith); length = λ _. wrong-lengths g; malformed = λ z. absurd (omega arith); only = omega arith }
      go (Err said.Malformed) g = let k : n ≡ 2 = e ∙ (unfold asked_number in rw g) in
          record { given = λ z. absurd (omega arith); length = λ z. absurd (omega arith); malformed = λ _. g; only = omega arith }
