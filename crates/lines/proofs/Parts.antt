-- The texts of numbers, literals, clauses, the header and the prefix, part by part, as the code writes them and counts them.
-- Assumes nothing.
use mathlib.Core.Path.{◌≡◌, refl, sym, ap, ◌∙◌}
use mathlib.Core.Bool.{false}
use mathlib.Core.List.{List, [], ◌∷◌, ◌++◌, append_assoc}
use Prim.Native.Nat.{ℕ, suc, ◌+◌, ◌-◌, ◌/◌, ◌%◌, ◌≤◌, ◌<◌, max}
use Prim.Native.Char.{code}
use native.Mathlib.Numerals.{add-one}
use native.Mathlib.Omega.{arith}
use borrow.Author.Tests.{eq-eqb, ne_eqb}
use lib.Dec.{eqb}
use lib.ListN.{length, take, drop, get_or, drop_of_length-le}
use lib.Seq.{drop-cons, take_all}
use Rattle.meaning.specs.Formula.{Formula, var, odd}
use Rattle.qdimacs.specs.Write.{decimal, letter, largest, line_rest, prefix_lines, literal_text, clause_line, clause_lines, header, write}
use Rattle.lines.specs.Written.{Room, Written, Sized}
use Rattle.lines.specs.Texts.{field_text, first_text, end_text, entry_text}
use Rattle.meaning.proofs.Basics.{by_cases}
use Rattle.meaning.proofs.Literals.{odd-of, even-of}
use Rattle.qdimacs.proofs.Words.{decimal-short, decimal-long}
use Rattle.lines.proofs.Writing.{Splits, splits-size, written_as, written_both, room_as, room-first, room_next, Going, room-left, going_on, going_done}

-- odd or not, as the code asks
not-odd : (l : ℕ) → (l % 2 ≡ 1 → ⊥) → odd l ≡ false
not-odd l h = even-of l (omega arith)

-- Numbers, fields, and the end of a line ---------------------------------------------------------------------
pub number_short : (n : ℕ) → n < 10 → (code "0" + n) ∷ [] ≡ decimal n
number_short n h = sym (decimal-short n h)

pub number-long : (n : ℕ) → 10 ≤ n → Splits (decimal n) (decimal (n / 10)) ((code "0" + n % 10) ∷ [])
number-long n h = record { is = decimal-long n h }

pub field-splits : (n b : ℕ) → Splits (field_text n b) (decimal n) (b ∷ [])
unfolding field_text
field-splits n b = record { is = refl }

pub end_is : code "0" ∷ code "\n" ∷ [] ≡ end_text
unfolding end_text
end_is = refl

end-size : length end_text ≡ 2
end-size = ap length (sym end_is)

-- Literals ---------------------------------------------------------------------------------------------------
pub literal-minus : (l : ℕ) → l % 2 ≡ 1 → Splits (literal_text l) (code "-" ∷ []) (decimal (l / 2))
unfolding literal_text var
literal-minus l h = record { is = rw (odd-of l h) }

pub literal-plain : (l : ℕ) → (l % 2 ≡ 1 → ⊥) → decimal (l / 2) ≡ literal_text l
unfolding literal_text var
literal-plain l h = rw (not-odd l h)

module _ (l n : ℕ) (s : Sized (decimal (l / 2)) 5 n) where
  pub sized-minus : l % 2 ≡ 1 → Sized (literal_text l) 6 (n + 1)
  sized-minus h = record { is = omega (arith, s.is, splits-size (literal-minus l h)); few = omega (arith, s.few) }

  pub sized-plain : (l % 2 ≡ 1 → ⊥) → Sized (literal_text l) 6 n
  sized-plain h = record { is = s.is ∙ ap length (literal-plain l h); few = omega (arith, s.few) }

-- Clauses ----------------------------------------------------------------------------------------------------
-- a literal and a space
abbrev pub item_text : ℕ → List ℕ
item_text l = literal_text l ++ (code " " ∷ [])

pub item-splits : (l : ℕ) → Splits (item_text l) (literal_text l) (code " " ∷ [])
item-splits l = record { is = refl }

module _ (c : List ℕ) (i : ℕ) where
  clause-more : i < length c → Splits (clause_line (drop i c)) (item_text (get_or c i 0)) (clause_line (drop (i + 1) c))
  unfolding clause_line
  clause-more h =
      record { is = rw (drop-cons c i 0 h, add-one i) (sym (append_assoc (literal_text (get_or c i 0)) (code " " ∷ []) (clause_line (drop (suc i) c)))) }

  clause-end : length c ≤ i → end_text ≡ clause_line (drop i c)
  unfolding clause_line end_text
  clause-end h = rw (drop_of_length-le c h)

  -- counted: n bytes for the literals that are passed
  module _ (n total : ℕ) (inv : n + length (clause_line (drop i c)) ≡ total) where
    pub clause-counts : i < length c → (k : ℕ) → k ≡ length (literal_text (get_or c i 0)) → n + (k + 1) + length (clause_line (drop (i + 1) c)) ≡ total
    clause-counts h k e = omega (arith, splits-size (clause-more h), splits-size (item-splits (get_or c i 0)))

    pub clause-counted : length c ≤ i → n + 2 ≡ total
    clause-counted h = omega (arith, ap length (clause-end h), end-size)

  -- written
  module _ {from at : ℕ} {lent out : List ℕ} (g : Going (clause_line c) (clause_line (drop i c)) from at lent out) where
    pub clause-room : i < length c → Room (clause_line c) from lent → Room (item_text (get_or c i 0)) at out
    clause-room h k = room-first (clause-more h) (room-left g k)

    pub clause-turn : {b d : List ℕ} {r q : ℕ} → i < length c → Written (literal_text (get_or c i 0)) at out b r → Written (code " " ∷ []) r b d q
        → Going (clause_line c) (clause_line (drop (i + 1) c)) from q lent d
    clause-turn h v w = going_on g (clause-more h) (written_both (item-splits (get_or c i 0)) v w)

    pub clause-room-last : length c ≤ i → Room (clause_line c) from lent → Room end_text at out
    clause-room-last h k = room_as (clause-end h) (room-left g k)

    pub clause-done : {b : List ℕ} {r : ℕ} → length c ≤ i → Written end_text at out b r → Written (clause_line c) from lent b r
    clause-done h w = going_done g (written_as (clause-end h) w)

-- The header -------------------------------------------------------------------------------------------------
pub header-first : (m c : ℕ) → Splits (header m c []) (code "p" ∷ code " " ∷ code "c" ∷ code "n" ∷ code "f" ∷ code " " ∷ []) (field_text m (code " ") ++ field_text c (code "\n"))
unfolding header field_text
header-first m c =
    record { is = ap {B = List ℕ} (λ l. code "p" ∷ code " " ∷ code "c" ∷ code "n" ∷ code "f" ∷ code " " ∷ l) (sym (append_assoc (decimal m) (code " " ∷ []) (decimal c ++ (code "\n" ∷ [])))) }

pub header-next : (m c : ℕ) → Splits (field_text m (code " ") ++ field_text c (code "\n")) (field_text m (code " ")) (field_text c (code "\n"))
header-next m c = record { is = refl }

pub sized-header : (m c x y : ℕ) → Sized (decimal m) 5 x → Sized (decimal c) 5 y → Sized (header m c []) 18 (x + y + 8)
sized-header m c x y s t =
    record {
      is = omega (arith, s.is, t.is, splits-size (header-first m c), splits-size (header-next m c), splits-size (field-splits m (code " ")), splits-size (field-splits c (code "\n")));
      few = omega (arith, s.few, t.few);
    }

-- The prefix -------------------------------------------------------------------------------------------------
pub letter-universal : (e : ℕ) → e % 2 ≡ 1 → code "a" ∷ [] ≡ letter e ∷ []
unfolding letter
letter-universal e h = rw (odd-of e h)

pub letter-existential : (e : ℕ) → (e % 2 ≡ 1 → ⊥) → code "e" ∷ [] ≡ letter e ∷ []
unfolding letter
letter-existential e h = rw (not-odd e h)

pub first-splits : (e : ℕ) → Splits (first_text e) (letter e ∷ []) (code " " ∷ field_text (e / 2) (code " "))
unfolding first_text var
first-splits e = record { is = refl }

pub space-splits : (text : List ℕ) → Splits (code " " ∷ text) (code " " ∷ []) text
space-splits text = record { is = refl }

pub entry-same : (q e : ℕ) → q % 2 ≡ e % 2 → field_text (e / 2) (code " ") ≡ entry_text q e
unfolding entry_text var
entry-same q e h = rw (eq-eqb (q % 2) (e % 2) h)

pub entry_other : (q e : ℕ) → (q % 2 ≡ e % 2 → ⊥) → Splits (entry_text q e) end_text (first_text e)
unfolding entry_text
entry_other q e h = record { is = rw (ne_eqb (q % 2) (e % 2) h) }

first-size : (e : ℕ) → length (first_text e) ≡ length (decimal (e / 2)) + 3
first-size e = omega (arith, splits-size (first-splits e), splits-size (space-splits (field_text (e / 2) (code " "))), splits-size (field-splits (e / 2) (code " ")))

module _ (q e n : ℕ) (s : Sized (decimal (e / 2)) 5 n) where
  pub sized_same : q % 2 ≡ e % 2 → Sized (entry_text q e) 10 (n + 1)
  sized_same h = record { is = omega (arith, s.is, splits-size (field-splits (e / 2) (code " ")), ap length (entry-same q e h)); few = omega (arith, s.few) }

  pub sized-other : (q % 2 ≡ e % 2 → ⊥) → Sized (entry_text q e) 10 ((n + 1) + 4)
  sized-other h = record { is = omega (arith, s.is, first-size e, splits-size (entry_other q e h), end-size); few = omega (arith, s.few) }

-- the first entry, and what follows it
pub prefix-none : (p : List ℕ) → length p ≡ 0 → [] ≡ prefix_lines p
unfolding prefix_lines
prefix-none [] h = refl
prefix-none (e ∷ es) h = absurd (omega arith)

-- the part `[_, rest @ ..]` of the prefix
abbrev pub rest_of : List ℕ → List ℕ
rest_of p = take (length p - 1) (drop 1 p)

prefix-first : (p : List ℕ) → 1 ≤ length p → Splits (prefix_lines p) (first_text (get_or p 0 0)) (line_rest (get_or p 0 0) (rest_of p))
unfolding prefix_lines first_text field_text
prefix-first [] h = absurd (omega arith)
prefix-first (e ∷ es) h =
    record {
      is =
          ap {B = List ℕ} (λ l. letter e ∷ code " " ∷ l)
          (rw (take_all (length (e ∷ es) - 1) es (omega arith)) (sym (append_assoc (decimal (var e)) (code " " ∷ []) (line_rest e es))));
    }

module _ (p : List ℕ) (h : 1 ≤ length p) where
  pub first_counted : (n : ℕ) → Sized (decimal (get_or p 0 0 / 2)) 5 n → (n + 3) + length (line_rest (get_or p 0 0) (rest_of p)) ≡ length (prefix_lines p)
  first_counted n s = omega (arith, s.is, splits-size (prefix-first p h), first-size (get_or p 0 0))

  pub first-room : {at : ℕ} {a : List ℕ} → Room (prefix_lines p) at a → Room (first_text (get_or p 0 0)) at a
  first-room k = room-first (prefix-first p h) k

  module _ {at r : ℕ} {a b : List ℕ} (w : Written (first_text (get_or p 0 0)) at a b r) where
    pub room-rest : Room (prefix_lines p) at a → Room (line_rest (get_or p 0 0) (rest_of p)) r b
    room-rest k = room_next (prefix-first p h) w k

    pub prefix-done : {d : List ℕ} {q : ℕ} → Written (line_rest (get_or p 0 0) (rest_of p)) r b d q → Written (prefix_lines p) at a d q
    prefix-done v = written_both (prefix-first p h) w v

rest-cons : (q e : ℕ) (es : List ℕ) → line_rest q (e ∷ es) ≡ entry_text q e ++ line_rest e es
unfolding line_rest entry_text end_text first_text field_text
rest-cons q e es =
    let a = sym (append_assoc (decimal (var e)) (code " " ∷ []) (line_rest e es)) in
    by_cases (eqb (q % 2) (e % 2)) (λ z. rw z a) (λ z. rw z (ap {B = List ℕ} (λ l. code "0" ∷ code "\n" ∷ letter e ∷ code " " ∷ l) a))

-- the loop over the further entries p; q is the entry before
module _ (p : List ℕ) (i q : ℕ) where
  rest_more : i < length p → Splits (line_rest q (drop i p)) (entry_text q (get_or p i 0)) (line_rest (get_or p i 0) (drop (i + 1) p))
  rest_more h = record { is = rw (drop-cons p i 0 h, add-one i) (rest-cons q (get_or p i 0) (drop (suc i) p)) }

  rest_end : length p ≤ i → end_text ≡ line_rest q (drop i p)
  unfolding line_rest end_text
  rest_end h = rw (drop_of_length-le p h)

  -- counted: n bytes for the entries that are passed
  module _ (n total : ℕ) (inv : n + length (line_rest q (drop i p)) ≡ total) where
    pub rest-counts : i < length p → (k : ℕ) → k ≡ length (entry_text q (get_or p i 0)) → n + k + length (line_rest (get_or p i 0) (drop (i + 1) p)) ≡ total
    rest-counts h k e = omega (arith, splits-size (rest_more h))

    pub rest-counted : length p ≤ i → n + 2 ≡ total
    rest-counted h = omega (arith, ap length (rest_end h), end-size)

  -- written
  module _ {whole : List ℕ} {from at : ℕ} {lent out : List ℕ} (g : Going whole (line_rest q (drop i p)) from at lent out) where
    pub rest-room : i < length p → Room whole from lent → Room (entry_text q (get_or p i 0)) at out
    rest-room h k = room-first (rest_more h) (room-left g k)

    pub rest-turn : {b : List ℕ} {r : ℕ} → i < length p → Written (entry_text q (get_or p i 0)) at out b r
        → Going whole (line_rest (get_or p i 0) (drop (i + 1) p)) from r lent b
    rest-turn h w = going_on g (rest_more h) w

    pub rest-room-last : length p ≤ i → Room whole from lent → Room end_text at out
    rest-room-last h k = room_as (rest_end h) (room-left g k)

    pub rest-done : {b : List ℕ} {r : ℕ} → length p ≤ i → Written end_text at out b r → Written whole from lent b r
    rest-done h w = going_done g (written_as (rest_end h) w)

-- the largest variable: m is that of the entries that are passed
module _ (p : List ℕ) (i m : ℕ) (inv : largest p ≡ max m (largest (drop i p))) where
  pub largest-more : i < length p → (k : ℕ) → k ≡ max m (get_or p i 0 / 2) → largest p ≡ max k (largest (drop (i + 1) p))
  largest-more h k e =
      let z : largest (drop i p) ≡ max (get_or p i 0 / 2) (largest (drop (i + 1) p)) = unfold largest var in rw (drop-cons p i 0 h, add-one i) in omega arith

  pub largest-end : length p ≤ i → m ≡ largest p
  largest-end h = let z : largest (drop i p) ≡ 0 = unfold largest in rw (drop_of_length-le p h) in omega arith

-- The clauses' lines, one after another
pub clauses-more : (c : List ℕ) (cs : List (List ℕ)) → Splits (clause_lines (c ∷ cs)) (clause_line c) (clause_lines cs)
unfolding clause_lines
clauses-more c cs = record { is = refl }

-- The whole text ---------------------------------------------------------------------------------------------
-- a formula is written as its header, its prefix and its clauses, in this order
pub write-splits : (φ : Formula) → Splits (write φ) (header (largest φ.prefix) (length φ.clauses) []) (prefix_lines φ.prefix ++ clause_lines φ.clauses)
unfolding write header
write-splits φ =
    record {
      is =
          ap {B = List ℕ} (λ l. code "p" ∷ code " " ∷ code "c" ∷ code "n" ∷ code "f" ∷ code " " ∷ l)
          (sym (append_assoc (decimal m) (code " " ∷ (decimal c ++ (code "\n" ∷ []))) rest ∙
          ap {B = List ℕ} (λ l. decimal m ++ (code " " ∷ l)) (append_assoc (decimal c) (code "\n" ∷ []) rest)));
    }
  where
    m : ℕ
    m = largest φ.prefix

    c : ℕ
    c = length φ.clauses

    rest : List ℕ
    rest = prefix_lines φ.prefix ++ clause_lines φ.clauses
