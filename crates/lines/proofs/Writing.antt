-- Texts written one after another, and the loops that write: what is still to be written makes the whole.
-- Assumes nothing.
use mathlib.Core.Path.{◌≡◌, refl, sym, ap, ◌∙◌, subst}
use mathlib.Core.List.{List, [], ◌∷◌, ◌++◌, append_assoc}
use Prim.Native.Nat.{ℕ, suc, ◌+◌}
use native.Mathlib.Nat.{add-zero, add-suc, suc-add}
use native.Mathlib.Omega.{arith}
use lib.ListN.{length, take, drop, set, length-append}
use lib.Seq.{sets, length-sets, drop-drop}
use borrow.Rule.Slice.PartMut.{put_mid}
use Rattle.std.proofs.lemmas.List.Edits.{sets-eq}
use Rattle.lines.specs.Written.{Room, Written}

sets-append : (vs ws l : List ℕ) (i : ℕ) → sets l i (vs ++ ws) ≡ sets (sets l i vs) (i + length vs) ws
sets-append [] ws l i = rw (add-zero i)
sets-append (v ∷ vs) ws l i = sets-append vs ws (set l i v) (suc i) ∙ rw (add-suc i (length vs), suc-add i (length vs))

-- One text, and a text after it ------------------------------------------------------------------------------
-- the text is two parts
pub record Splits (text xs ys : List ℕ) : Type 0 where
  pub is : text ≡ xs ++ ys

pub splits-size : {text xs ys : List ℕ} → Splits text xs ys → length text ≡ length xs + length ys
splits-size {text} {xs} {ys} s = ap length s.is ∙ length-append xs ys

pub written_none : (l : List ℕ) (at : ℕ) → Written [] at l l at
written_none l at = record { place = omega arith; bytes = refl }

pub written-length : {xs a b : List ℕ} {at r : ℕ} → Written xs at a b r → length b ≡ length a
written-length {xs} {a} {b} {at} w = ap length w.bytes ∙ length-sets a at xs

-- a text that is copied as a whole
pub written-copy : {xs ys a : List ℕ} {at n : ℕ} → Room xs at a → ys ≡ xs → n ≡ length xs → Written xs at a (put_mid at n a ys) (at + length xs)
written-copy {xs} {ys} {a} {at} {n} h e k =
    record { place = refl; bytes = rw (e, k, drop-drop (length xs) at a) (sym (sets-eq xs a at h.fits ∙ append_assoc (take at a) xs (drop (at + length xs) a))) }

-- the same text under another name
pub written_as : {xs ys a b : List ℕ} {at r : ℕ} → xs ≡ ys → Written xs at a b r → Written ys at a b r
written_as {xs} {ys} {a} {b} {at} {r} e w = subst (λ (z : List ℕ). Written z at a b r) e w

pub room_as : {xs ys a : List ℕ} {at : ℕ} → xs ≡ ys → Room ys at a → Room xs at a
room_as {xs} {ys} {a} {at} e h = subst (λ (z : List ℕ). Room z at a) (sym e) h

module _ {text xs ys : List ℕ} (s : Splits text xs ys) where
  -- there is room for the first part, and then for the second, if there is for both
  pub room-first : {a : List ℕ} {at : ℕ} → Room text at a → Room xs at a
  room-first h = record { fits = omega (arith, h.fits, splits-size s) }

  pub room_next : {a b : List ℕ} {at r : ℕ} → Written xs at a b r → Room text at a → Room ys r b
  room_next w h = record { fits = omega (arith, h.fits, w.place, written-length w, splits-size s) }

  -- both are written
  pub written_both : {a b c : List ℕ} {at r q : ℕ} → Written xs at a b r → Written ys r b c q → Written text at a c q
  written_both {a} {b} {c} {at} {r} {q} w v =
      record {
        place = omega (arith, w.place, v.place, splits-size s);
        bytes = v.bytes ∙ rw (w.bytes, w.place) (sym (ap (sets a at) s.is ∙ sets-append xs ys a at));
      }

-- Loops ------------------------------------------------------------------------------------------------------
-- `left`, written at `at`, makes `whole`, written at `from` in the buffer as it was lent
pub record Going (whole left : List ℕ) (from at : ℕ) (lent out : List ℕ) : Type 0 where
  pub size : length out ≡ length lent
  pub place : at + length left ≡ from + length whole
  pub bytes : sets out at left ≡ sets lent from whole

pub going_start : (whole : List ℕ) (from : ℕ) (lent : List ℕ) → Going whole whole from from lent lent
going_start whole from lent = record { size = refl; place = refl; bytes = refl }

module _ {whole left : List ℕ} {from at : ℕ} {lent out : List ℕ} (g : Going whole left from at lent out) where
  pub room-left : Room whole from lent → Room left at out
  room-left h = record { fits = omega (arith, h.fits, g.size, g.place) }

  -- a part of what is left is written
  pub going_on : {xs rest out' : List ℕ} {r : ℕ} → Splits left xs rest → Written xs at out out' r → Going whole rest from r lent out'
  going_on {xs} {rest} {out'} {r} s w =
      record {
        size = written-length w ∙ g.size;
        place = omega (arith, g.place, w.place, splits-size s);
        bytes = rw (w.bytes, w.place) (sym (ap (sets out at) s.is ∙ sets-append xs rest out at) ∙ g.bytes);
      }

  -- all that is left is written
  pub going_done : {out' : List ℕ} {r : ℕ} → Written left at out out' r → Written whole from lent out' r
  going_done w = record { place = w.place ∙ g.place; bytes = w.bytes ∙ g.bytes }
