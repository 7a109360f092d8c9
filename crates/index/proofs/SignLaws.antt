-- Signatures: that of a clause is a part of that of any clause with all its variables; and where they stand in a table.
-- Assumes nothing.
use Prim.Native.Nat.{ℕ, zero, suc, ◌+◌, ◌*◌, ◌/◌, ◌%◌, ◌^◌, ◌≤◌, ◌<◌}
use mathlib.Core.Path.{◌≡◌, refl, sym, ◌∙◌}
use mathlib.Core.Bool.{true, false}
use mathlib.Core.List.{List, [], ◌∷◌, foldl}
use lib.Bits.{bit_or, or_zero_r}
use lib.Dec.{eqb}
use lib.ListN.{length, get_or, take, drop, set, length-set, length-take, length-drop, drop_of_length-le}
use lib.Seq.{drop-cons, get_or-set_same, get_or-set_other, get_or-take, get_or-drop, ext_get_or}
use native.Mathlib.Nat.{add-zero, add-suc, suc-add, not-suc-le-zero, le_of_suc-le-suc}
use native.Mathlib.Numerals.{add-one}
use native.Mathlib.Omega.{arith}
use Rattle.meaning.specs.Lists.{all_of, any_of, has, part_of}
use Rattle.meaning.specs.Formula.{var, is_var, mentions}
use Rattle.index.specs.Signs.{bit_of, sign_on, signature_of, variables_in, signed}
use Rattle.meaning.proofs.Basics.{and_l, and_r, or_elim, clash, eqb-true, eqb-eq}
use Rattle.index.proofs.BitLaws.{bit_is, part-own, part_stays, part-both}

-- A part's signature is a part -----------------------------------------------------------------------------------
-- bits that are there stay
fold_stays : (y : List ℕ) (w m : ℕ) → bit_or w m ≡ w → bit_or (foldl sign_on w y) m ≡ foldl sign_on w y
fold_stays [] w m e = e
fold_stays (k ∷ y) w m e = fold_stays y (sign_on w k) m (unfold sign_on in part_stays w m (bit_of k) e)

-- the bit of each variable of the clause is there
fold-own : (y : List ℕ) (w m : ℕ) → mentions y (var m) ≡ true → bit_or (foldl sign_on w y) (bit_of m) ≡ foldl sign_on w y
unfolding mentions any_of
fold-own [] w m h = clash h refl
fold-own (k ∷ y) w m h =
    or_elim (is_var (var m) k) (any_of (is_var (var m)) y) h
    (λ e. fold_stays y (sign_on w k) (bit_of m) (here e))
    (λ e. fold-own y (sign_on w k) m (unfold mentions in e))
  where
    here : is_var (var m) k ≡ true → bit_or (sign_on w k) (bit_of m) ≡ sign_on w k
    here e =
        unfold is_var sign_on bit_of in
        let v : var k ≡ var m = eqb-true (var k) (var m) (unfold is_var in e) in
        rw v (part-own w (2 ^ (var m % 16)))

fold-part : (x y : List ℕ) (s : ℕ) → all_of (λ l. mentions y (var l)) x ≡ true → bit_or (signature_of y) s ≡ signature_of y
    → bit_or (signature_of y) (foldl sign_on s x) ≡ signature_of y
unfolding all_of
fold-part [] y s h e = e
fold-part (l ∷ x) y s h e =
    fold-part x y (sign_on s l) (and_r (mentions y (var l)) (all_of (λ l. mentions y (var l)) x) h) (one (and_l (mentions y (var l)) (all_of (λ l. mentions y (var l)) x) h))
  where
    one : mentions y (var l) ≡ true → bit_or (signature_of y) (sign_on s l) ≡ signature_of y
    one m = unfold sign_on in part-both (signature_of y) s (bit_of l) e (unfold signature_of in fold-own y 0 l m)

pub sign_part : (x y : List ℕ) → variables_in x y ≡ true → bit_or (signature_of y) (signature_of x) ≡ signature_of y
unfolding variables_in
sign_part x y h = unfold signature_of in fold-part x y 0 h (or_zero_r (signature_of y))

-- what may_be_part answers
pub may-be : (signs : List ℕ) (sign b : ℕ) (x y : List ℕ) → sign ≡ signature_of x → get_or signs b 0 ≡ signature_of y → variables_in x y ≡ true
    → eqb (bit_or (get_or signs b 0) sign) (get_or signs b 0) ≡ true
may-be signs sign b x y e f h = rw (e, f) (eqb-eq (sign_part x y h))

-- Where they stand ------------------------------------------------------------------------------------------------
pub signed-length : (at : ℕ) (cs : List (List ℕ)) (t : List ℕ) → length (signed at cs t) ≡ length t
unfolding signed
signed-length at [] t = refl
signed-length at (c ∷ cs) t = signed-length (suc at) cs (set t at (signature_of c)) ∙ length-set t at (signature_of c)

-- what stands before them stays
pub signed_below : (at : ℕ) (cs : List (List ℕ)) (t : List ℕ) (k : ℕ) → k < at → get_or (signed at cs t) k 0 ≡ get_or t k 0
unfolding signed
signed_below at [] t k h = refl
signed_below at (c ∷ cs) t k h =
    signed_below (suc at) cs (set t at (signature_of c)) k (omega arith) ∙ get_or-set_other t at k (signature_of c) 0 (λ e. omega arith)

pub signed_part : (at : ℕ) (cs : List (List ℕ)) (t : List ℕ) (s n : ℕ) → s + n ≤ at → take n (drop s (signed at cs t)) ≡ take n (drop s t)
signed_part at cs t s n h =
    ext_get_or 0 (take n (drop s (signed at cs t))) (take n (drop s t))
    (simp (length-take, length-drop, signed-length at cs t))
    (λ i k. let m : i < n = omega (arith, length-take n (drop s (signed at cs t))) in
    get_or-take n (drop s (signed at cs t)) i 0 m
    ∙ get_or-drop s (signed at cs t) i 0
    ∙ signed_below at cs t (s + i) (omega arith)
    ∙ sym (get_or-take n (drop s t) i 0 m ∙ get_or-drop s t i 0))

-- and each at its clause's number
pub signed-at : (at : ℕ) (cs : List (List ℕ)) (t : List ℕ) (i : ℕ) → i < length cs → at + i < length t
    → get_or (signed at cs t) (at + i) 0 ≡ signature_of (get_or cs i [])
unfolding signed
signed-at at [] t i h k = absurd (not-suc-le-zero h)
signed-at at (c ∷ cs) t zero h k =
    rw (add-zero at)
    (signed_below (suc at) cs (set t at (signature_of c)) at (omega arith) ∙ get_or-set_same t at (signature_of c) 0 (omega arith))
signed-at at (c ∷ cs) t (suc i) h k =
    rw (add-suc at i, ← suc-add at i)
    (signed-at (suc at) cs (set t at (signature_of c)) i (le_of_suc-le-suc h) (omega (arith, length-set t at (signature_of c))))

-- the loop: the clauses that are left have theirs to come
module _ (cs : List (List ℕ)) (at i : ℕ) (t : List ℕ) {r : List ℕ} (inv : r ≡ signed (at + i) (drop i cs) t) where
  pub signed-turn : i < length cs → (s : ℕ) → s ≡ signature_of (get_or cs i []) → r ≡ signed (at + (i + 1)) (drop (i + 1) cs) (set t (at + i) s)
  unfolding signed
  signed-turn h s e = inv ∙ rw (e, add-one i, add-suc at i, drop-cons cs i [] h)

  pub signed-end : length cs ≤ i → t ≡ r
  unfolding signed
  signed-end h = sym (inv ∙ rw (drop_of_length-le cs {i = i} h))

-- the bit of a literal comes by a shift
pub sign-shift : (s l : ℕ) → bit_or s (1 * 2 ^ (l / 2 % 16) % 65536) ≡ sign_on s l
unfolding sign_on bit_of var
sign-shift s l = rw (bit_is (l / 2 % 16) (omega arith)) refl

-- The signature of a part need not be that of the whole: who asks for the same one passes over the clause (1 2), of which (1) is a part.
pub proper-part : (part_of (2 ∷ []) (2 ∷ 4 ∷ []) ≡ true) × (eqb (signature_of (2 ∷ [])) (signature_of (2 ∷ 4 ∷ [])) ≡ false)
unfolding part_of all_of has any_of signature_of sign_on bit_of var
proper-part = (refl, refl)
