-- What a log entry says, from its fields.
-- Assumes nothing.
use Prim.Native.Nat.{ℕ, ◌+◌, ◌*◌, ◌/◌, ◌%◌}
use mathlib.Core.Path.{◌≡◌, refl, sym, ap, ◌∙◌}
use mathlib.Core.Bool.{true, false, ◌||◌, cond}
use lib.Dec.{eqb}
use Rattle.rules.specs.Entry.{Kind, code, uses_b, entry, KindRead, no_kind, is_kind, kind_at, bad, call, call_of, read_entry}
use Rattle.permits.specs.Calls.{called, call_read}
use Rattle.permits.specs.declared.Call.{Call}
use Rattle.std.specs.Prelude.{Option, Some, None}
use Rattle.meaning.proofs.Basics.{by_cases, eqb-eq, eqb-ne, eqb-true}
use Rattle.rules.proofs.Entries.{kind-code}

pub alone-zero : (x : Option Call) (b : ℕ) → b ≡ 0 → x ≡ cond (eqb b 0) x None
alone-zero x b e = rw (eqb-eq e)

pub alone-more : (x : Option Call) (b : ℕ) → (b ≡ 0 → ⊥) → None ≡ cond (eqb b 0) x None
alone-more x b e = rw (eqb-ne b 0 e)

pub entry-is : (k : Kind) (n a b : ℕ) → n ≡ code k → n * 536870912 + (a * 262144 + b * 128) ≡ entry k a b
unfolding entry
entry-is k n a b e = rw e

low-bad : (k : KindRead) (a b low : ℕ) → eqb low 0 ≡ false → bad ≡ call_of k a b low
unfolding call_of
low-bad no_kind a b low h = refl
low-bad (is_kind k) a b low h = rw h

-- the low seven bits are not zero
pub read_low : (e : ℕ) → (e % 128 ≡ 0 → ⊥) → call_read None ≡ read_entry e
unfolding call_read read_entry
read_low e h = low-bad (kind_at (e / 536870912)) (e / 262144 % 2048) (e / 128 % 2048) (e % 128) (eqb-ne (e % 128) 0 h)

-- they are, and the kind is k
module _ (k : Kind) (e : ℕ) (low : e % 128 ≡ 0) (is : e / 536870912 ≡ code k) where
  reads : read_entry e ≡ cond (uses_b k || eqb (e / 128 % 2048) 0) (call k (e / 262144 % 2048) (e / 128 % 2048)) bad
  unfolding read_entry call_of
  reads = rw (is, kind-code k, eqb-eq low)

  pub read-pair : uses_b k ≡ true → call k (e / 262144 % 2048) (e / 128 % 2048) ≡ read_entry e
  read-pair u = sym (reads ∙ rw u)

  pub read-alone : uses_b k ≡ false → (x : Call) → called x ≡ call k (e / 262144 % 2048) 0 → (r : Option Call) → r ≡ cond (eqb (e / 128 % 2048) 0) (Some x) None → call_read r ≡ read_entry e
  unfolding call_read
  read-alone u x s r q =
      by_cases (eqb (e / 128 % 2048) 0)
      (λ z.
      let is : r ≡ Some x = q ∙ rw z in
      let zero : call k (e / 262144 % 2048) 0 ≡ call k (e / 262144 % 2048) (e / 128 % 2048) = ap (call k (e / 262144 % 2048)) (sym (eqb-true (e / 128 % 2048) 0 z)) in
      rw (reads, u, z) (ap call_read is ∙ s ∙ zero))
      (λ z. let is : r ≡ None = q ∙ rw z in rw (reads, u, z) (ap call_read is))

-- the kind is none of the seven
module _ (e : ℕ) (n1 : e / 536870912 ≡ 1 → ⊥) (n2 : e / 536870912 ≡ 2 → ⊥) (n3 : e / 536870912 ≡ 3 → ⊥) (n4 : e / 536870912 ≡ 4 → ⊥) (n5 : e / 536870912 ≡ 5 → ⊥) (n6 : e / 536870912 ≡ 6 → ⊥) (n7 : e / 536870912 ≡ 7 → ⊥) where
  no-kind : kind_at (e / 536870912) ≡ no_kind
  unfolding kind_at
  no-kind =
      let n = e / 536870912 in
      rw (eqb-ne n 1 n1, eqb-ne n 2 n2, eqb-ne n 3 n3, eqb-ne n 4 n4, eqb-ne n 5 n5, eqb-ne n 6 n6, eqb-ne n 7 n7)

  pub read_none : call_read None ≡ read_entry e
  unfolding call_read read_entry call_of
  read_none = rw no-kind
