-- The record and the part, between their numbers and what these say.
-- Assumes nothing.
use Prim.Native.Nat.{ℕ, ◌≤◌, ◌<◌}
use mathlib.Core.Path.{◌≡◌, refl, sym, ap, ◌∙◌}
use mathlib.Core.Bool.{Bool, true, false, cond}
use mathlib.Core.List.{List, [], ◌∷◌}
use lib.Dec.{eqb}
use lib.ListN.{get_or, length, take, drop}
use mir.Val.{bool_byte}
use borrow.Author.Tests.{le-leb, lt-leb, eq-eqb, ne_eqb}
use native.Mathlib.Omega.{arith}
use Rattle.meaning.specs.Formula.{Formula}
use Rattle.table.specs.Lent.{named, right_lengths}
use Rattle.judging.specs.Check.{Asked, asked, asked_number, literals_given, literals_part}
use Rattle.table.specs.Table.{decode, all_literals}
use Rattle.table.specs.declared.Counts.{Counts}
use Rattle.judging.specs.declared.Unfit.TheVariants.{WrongLength, Malformed}
use Rattle.std.specs.Prelude.{Ok, Err}
use Rattle.table.proofs.HoldLaws.{literals-are}
use Rattle.judging.proofs.LiteralLaws.{given_holds, given-part}
use Rattle.exports.specs.Records.{side_known, counts_in, record_of, side_number, no_part, part_of, part_in}
use Rattle.exports.specs.Calls.{place_asked, literals_asked, number_asked, LiteralsCall}

-- The fourth number ---------------------------------------------------------------------------------------------
pub side-known : (l : List ℕ) → get_or l 3 0 ≤ 1 → side_known l ≡ true
unfolding side_known
side-known l h = le-leb (get_or l 3 0) 1 h

pub side-unknown : (l : List ℕ) → 1 < get_or l 3 0 → side_known l ≡ false
unfolding side_known
side-unknown l h = lt-leb (get_or l 3 0) 1 h

pub byte-is : (b : Bool) → bool_byte b ≡ cond b 1 0
byte-is true = refl
byte-is false = refl

pub given-record : (c : Counts) (n : ℕ) → (c.variables ∷ (c.clauses ∷ (c.literals ∷ (bool_byte c.second ∷ (n ∷ []))))) ≡ record_of c n
unfolding record_of
given-record c n = rw (byte-is c.second)

-- Its refusal ---------------------------------------------------------------------------------------------------
module _ (first second : List ℕ) where
  pub number-first : (length first ≡ 11261 → ⊥) → 1 ≡ side_number first second
  unfolding side_number right_lengths
  number-first e = rw (ne_eqb (length first) 11261 e)

  pub number-second : length first ≡ 11261 → (length second ≡ 11261 → ⊥) → 1 ≡ side_number first second
  unfolding side_number right_lengths
  number-second e d = rw (eq-eqb (length first) 11261 e, ne_eqb (length second) 11261 d)

  pub number-side : length first ≡ 11261 → length second ≡ 11261 → 2 ≡ side_number first second
  unfolding side_number right_lengths
  number-side e d = rw (eq-eqb (length first) 11261 e, eq-eqb (length second) 11261 d)

-- The literals --------------------------------------------------------------------------------------------------
given-of-zero : (x : Asked) → asked_number x ≡ 0 → Ok tt ≡ x
unfolding asked_number
given-of-zero (Ok u) e = refl
given-of-zero (Err WrongLength) e = absurd (omega arith)
given-of-zero (Err Malformed) e = absurd (omega arith)

no-part : (x : Asked) (c : Counts) → (asked_number x ≡ 0 → ⊥) → part_of x c ≡ no_part
unfolding asked_number part_of
no-part (Ok u) c e = absurd (e refl)
no-part (Err WrongLength) c e = refl
no-part (Err Malformed) c e = refl

no-literals : (x : Asked) → (asked_number x ≡ 0 → ⊥) → (φ : Formula) → literals_given x φ ≡ []
unfolding asked_number literals_given
no-literals (Ok u) e φ = absurd (e refl)
no-literals (Err WrongLength) e φ = refl
no-literals (Err Malformed) e φ = refl

given-place : (x : Asked) → Ok tt ≡ x → (c : Counts) → (cond c.second 1 0 ∷ (3070 ∷ (c.literals ∷ []))) ≡ part_of x c
unfolding part_of
given-place x e c = rw (← e)

byte-back : (b : Bool) → eqb (bool_byte b) 1 ≡ b
byte-back true = refl
byte-back false = refl

named-is : (a b : List ℕ) (c : Counts) → cond c.second b a ≡ named a b c
unfolding named
named-is a b c = refl

module _ (a b l : List ℕ) where
  -- the fourth number is over 1
  pub unknown-number : 1 < get_or l 3 0 → (n : ℕ) → n ≡ side_number a b → n ≡ number_asked a b l
  unfolding number_asked
  unknown-number h n e = rw (side-unknown l h) e

  pub unknown-part : 1 < get_or l 3 0 → LiteralsCall a b l (0 ∷ (0 ∷ (0 ∷ [])))
  unfolding place_asked literals_asked part_in no_part
  unknown-part h = record { place = rw (side-unknown l h); stands = rw (side-unknown l h) }

  -- it is not: c is the record
  module _ (h : get_or l 3 0 ≤ 1) (c : Counts) (r : c ≡ counts_in l) (n : ℕ) (e : n ≡ asked_number (asked a b c)) where
    pub known-number : n ≡ number_asked a b l
    unfolding number_asked
    known-number = rw (side-known l h, ← r) e

    pub known-none : (n ≡ 0 → ⊥) → LiteralsCall a b l (0 ∷ (0 ∷ (0 ∷ [])))
    unfolding place_asked literals_asked part_in no_part literals_part
    known-none q =
        record { place = rw (side-known l h, ← r) (sym (no-part (asked a b c) c (λ z. q (e ∙ z)))); stands = rw (side-known l h, ← r) (sym (no-literals (asked a b c) (λ z. q (e ∙ z)) _)) }

    pub known-part : n ≡ 0 → LiteralsCall a b l (bool_byte c.second ∷ (3070 ∷ (c.literals ∷ [])))
    unfolding place_asked literals_asked part_in
    known-part q =
        record { place = rw (side-known l h, ← r) (ap (λ (x : ℕ). x ∷ (3070 ∷ (c.literals ∷ []))) (byte-is c.second) ∙ given-place (asked a b c) given c); stands = rw (side-known l h, ← r, byte-back c.second) (stood ∙ sym (given-part a b c (asked a b c) refl (sym given))) }
      where
        given : Ok tt ≡ asked a b c
        given = given-of-zero (asked a b c) (sym e ∙ q)

        stood : take c.literals (drop 3070 (cond c.second b a)) ≡ all_literals (decode (named a b c) c).clauses
        stood = rw (named-is a b c) (literals-are (given_holds a b c (asked a b c) refl (sym given)))
