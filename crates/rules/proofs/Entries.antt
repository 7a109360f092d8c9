-- Numbers and calls, logs and bytes: each way there and back. Assumes nothing.
use mathlib.Core.Path.{◌≡◌, refl, sym, ◌∙◌, ap, ap₂}
use Prim.Native.Nat.{ℕ, ◌+◌, ◌*◌, ◌/◌, ◌%◌, ◌<◌, ◌≤◌}
use native.Mathlib.Omega.{arith}
use mathlib.Core.Bool.{Bool, true, false, ◌&&◌, ◌||◌, cond}
use mathlib.Core.List.{List, [], ◌∷◌, ◌++◌}
use lib.Dec.{eqb, ltb}
use borrow.Author.Tests.{ltb-true}
use Rattle.meaning.specs.Lists.{all_of}
use Rattle.rules.specs.Entry.{Kind, unit, pure, subsume, strengthen, equality, resolve, expand, code, uses_b, entry, KindRead, no_kind, is_kind, kind_at, bad, call, call_of, read_entry, entry_bytes, byte_entry, log_bytes, LogRead, bad_length, entries, one_more, read_log}
use Rattle.meaning.proofs.Basics.{and_l, and_r, eqb-true}

-- Kinds ------------------------------------------------------------------------------------------------------
pub kind-code : (k : Kind) → kind_at (code k) ≡ is_kind k
unfolding kind_at code
kind-code unit = refl
kind-code pure = refl
kind-code subsume = refl
kind-code strengthen = refl
kind-code equality = refl
kind-code resolve = refl
kind-code expand = refl

pub code-inj : (j k : Kind) → code j ≡ code k → j ≡ k
code-inj j k e =
    let z : is_kind j ≡ is_kind k = sym (kind-code j) ∙ (ap kind_at e ∙ kind-code k) in
    cc

pub code-range : (k : Kind) → (1 ≤ code k) × (code k < 8)
unfolding code
code-range unit = (omega arith, omega arith)
code-range pure = (omega arith, omega arith)
code-range subsume = (omega arith, omega arith)
code-range strengthen = (omega arith, omega arith)
code-range equality = (omega arith, omega arith)
code-range resolve = (omega arith, omega arith)
code-range expand = (omega arith, omega arith)

-- only the code of a kind reads as it
pub code-kind : (c : ℕ) (k : Kind) → kind_at c ≡ is_kind k → c ≡ code k
unfolding kind_at code
code-kind c k =
    kind-or unit (kind-or pure (kind-or subsume (kind-or strengthen (kind-or equality (kind-or resolve (kind-or expand (λ x. absurd (let z : ◌≡◌ {A = ℕ} 0 1 = cc in omega arith))))))))
  where
    -- it is j, or one of the rest
    kind-or : (j : Kind) {rest : KindRead} → (rest ≡ is_kind k → c ≡ code k) → cond (eqb c (code j)) (is_kind j) rest ≡ is_kind k → c ≡ code k
    kind-or j {rest} f e = go (eqb c (code j)) refl e
      where
        go : (s : Bool) → eqb c (code j) ≡ s → cond s (is_kind j) rest ≡ is_kind k → c ≡ code k
        go true h x = let z : j ≡ k = cc in eqb-true c (code j) h ∙ ap code z
        go false h x = f x

-- Entries ----------------------------------------------------------------------------------------------------
-- an a or b is below 2,048, and an unused b is 0
pub record Fields (k : Kind) (a b : ℕ) : Type 0 where
  pub a_small : a < 2048
  pub b-small : b < 2048
  pub b-used : (uses_b k || eqb b 0) ≡ true

pub read-entry : (k : Kind) (a b : ℕ) → Fields k a b → read_entry (entry k a b) ≡ call k a b
unfolding read_entry call_of entry
read-entry k a b f =
    let s : code k < 8 = (code-range k).1 in
    rw (top, kind-code k, mid, low, end, f.b-used)
  where
    top : (code k * 536870912 + (a * 262144 + b * 128)) / 536870912 ≡ code k
    top = omega arith

    mid : (code k * 536870912 + (a * 262144 + b * 128)) / 262144 % 2048 ≡ a
    mid = omega arith

    low : (code k * 536870912 + (a * 262144 + b * 128)) / 128 % 2048 ≡ b
    low = omega arith

    end : (code k * 536870912 + (a * 262144 + b * 128)) % 128 ≡ 0
    end = omega arith

-- what a call that is read says of its parts
record Called (m : KindRead) (c d low : ℕ) (k : Kind) (a b : ℕ) : Type 0 where
  kind : m ≡ is_kind k
  is-a : c ≡ a
  is_b : d ≡ b
  no-low : low ≡ 0
  used : (uses_b k || eqb b 0) ≡ true

call-of : (m : KindRead) (c d low : ℕ) (k : Kind) (a b : ℕ) → call_of m c d low ≡ call k a b → Called m c d low k a b
unfolding call_of
call-of no_kind c d low k a b e = absurd (let z : ◌≡◌ {A = ℕ} 0 1 = cc in omega arith)
call-of (is_kind j) c d low k a b e = go (eqb low 0) (uses_b j || eqb d 0) refl refl e
  where
    go : (s t : Bool) → eqb low 0 ≡ s → (uses_b j || eqb d 0) ≡ t → cond (s && t) (call j c d) bad ≡ call k a b → Called (is_kind j) c d low k a b
    go true true hs ht x =
        let p : j ≡ k = cc in
        let q : d ≡ b = cc in
        record { kind = ap is_kind p; is-a = cc; is_b = q; no-low = eqb-true low 0 hs; used = rw (← p, ← q) ht }
    go true false hs ht x = absurd (let z : ◌≡◌ {A = ℕ} 0 1 = cc in omega arith)
    go false t hs ht x = absurd (let z : ◌≡◌ {A = ℕ} 0 1 = cc in omega arith)

pub record Reads (n : ℕ) (k : Kind) (a b : ℕ) : Type 0 where
  pub fields : Fields k a b
  pub number : entry k a b ≡ n

-- a number that is no bad entry is the entry of what it calls
pub entry_read : (n : ℕ) (k : Kind) (a b : ℕ) → read_entry n ≡ call k a b → Reads n k a b
unfolding read_entry entry
entry_read n k a b e =
    let z : Called (kind_at (n / 536870912)) (n / 262144 % 2048) (n / 128 % 2048) (n % 128) k a b = call-of _ _ _ _ k a b e in
    let c : n / 536870912 ≡ code k = code-kind (n / 536870912) k z.kind in
    record { fields = record { a_small = omega arith; b-small = omega arith; b-used = z.used }; number = omega arith }

-- so it has 32 bits
pub entry-small : (k : Kind) (a b : ℕ) → Fields k a b → entry k a b < 4294967296
unfolding entry
entry-small k a b f = omega (arith, (code-range k).1)

-- Bytes ------------------------------------------------------------------------------------------------------
split : (m : ℕ) → m ≡ m / 256 * 256 + m % 256
split m = omega arith

four : (n q1 q2 q3 r0 r1 r2 : ℕ) → n ≡ q1 * 256 + r0 → q1 ≡ q2 * 256 + r1 → q2 ≡ q3 * 256 + r2 → q3 * 16777216 + (r2 * 65536 + (r1 * 256 + r0)) ≡ n
four n q1 q2 q3 r0 r1 r2 x y z = omega arith

top_byte : (n : ℕ) → n < 4294967296 → n / 16777216 % 256 ≡ n / 16777216
top_byte n h = omega arith

third : (n : ℕ) → n / 16777216 ≡ n / 65536 / 256
third n = omega arith

second : (n : ℕ) → n / 65536 ≡ n / 256 / 256
second n = omega arith

pub entry-bytes : (n : ℕ) → n < 4294967296 → byte_entry (n / 16777216 % 256) (n / 65536 % 256) (n / 256 % 256) (n % 256) ≡ n
unfolding byte_entry
entry-bytes n h =
    rw (top_byte n h)
    (four n (n / 256) (n / 65536) (n / 16777216) (n % 256) (n / 256 % 256) (n / 65536 % 256) (split n) (rw second (split (n / 256))) (rw third (split (n / 65536))))

pub log-bytes : (es : List ℕ) → all_of (λ e. ltb e 4294967296) es ≡ true → read_log (log_bytes es) ≡ entries es
unfolding read_log log_bytes entry_bytes all_of
log-bytes [] h = refl
log-bytes (e ∷ es) h = rw (log-bytes es (search and_r), entry-bytes e (ltb-true e 4294967296 (search and_l))) (unfold one_more in refl)

one-more : (e : ℕ) (r : LogRead) (es : List ℕ) → one_more e r ≡ entries es → (ds : List ℕ) × (r ≡ entries ds) × (es ≡ e ∷ ds)
unfolding one_more
one-more e bad_length es h = absurd (let z : ◌≡◌ {A = ℕ} 0 1 = cc in omega arith)
one-more e (entries ds) es h = (ds, refl, cc)

bytes-entry : (a b c d : ℕ) → a < 256 → b < 256 → c < 256 → d < 256 → entry_bytes (byte_entry a b c d) ≡ a ∷ b ∷ c ∷ d ∷ []
unfolding entry_bytes byte_entry
bytes-entry a b c d ha hb hc hd = rw (p, q, r, s)
  where
    p : (a * 16777216 + (b * 65536 + (c * 256 + d))) / 16777216 % 256 ≡ a
    p = omega arith

    q : (a * 16777216 + (b * 65536 + (c * 256 + d))) / 65536 % 256 ≡ b
    q = omega arith

    r : (a * 16777216 + (b * 65536 + (c * 256 + d))) / 256 % 256 ≡ c
    r = omega arith

    s : (a * 16777216 + (b * 65536 + (c * 256 + d))) % 256 ≡ d
    s = omega arith

pub bytes-log : (bs : List ℕ) (es : List ℕ) → all_of (λ b. ltb b 256) bs ≡ true → read_log bs ≡ entries es → log_bytes es ≡ bs
unfolding read_log all_of
bytes-log [] es h e = let z : es ≡ [] = cc in ap log_bytes z ∙ (unfold log_bytes in refl)
bytes-log (a ∷ []) es h e = absurd (let z : ◌≡◌ {A = ℕ} 0 1 = cc in omega arith)
bytes-log (a ∷ b ∷ []) es h e = absurd (let z : ◌≡◌ {A = ℕ} 0 1 = cc in omega arith)
bytes-log (a ∷ b ∷ c ∷ []) es h e = absurd (let z : ◌≡◌ {A = ℕ} 0 1 = cc in omega arith)
bytes-log (a ∷ b ∷ c ∷ d ∷ bs) es h e = go (one-more (byte_entry a b c d) (read_log bs) es e) (bytes-log bs)
  where
    go : (ds : List ℕ) × (read_log bs ≡ entries ds) × (es ≡ byte_entry a b c d ∷ ds)
        → ((ds : List ℕ) → all_of (λ b. ltb b 256) bs ≡ true → read_log bs ≡ entries ds → log_bytes ds ≡ bs) → log_bytes es ≡ a ∷ b ∷ c ∷ d ∷ bs
    go w ih =
        ap log_bytes w.2 ∙ ((unfold log_bytes in ap₂ (λ (x y : List ℕ). x ++ y)
        (bytes-entry a b c d (ltb-true a 256 (search and_l)) (ltb-true b 256 (search (and_l, and_r))) (ltb-true c 256 (search (and_l, and_r))) (ltb-true d 256 (search (and_l, and_r))))
        (ih w.0 (search and_r) w.1)))
