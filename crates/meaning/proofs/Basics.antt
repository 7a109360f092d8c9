-- Booleans, the tests on numbers as equations, and the lists' tests. Assumes nothing.
use mathlib.Core.Path.{◌≡◌, refl, sym, ◌∙◌, subst}
use Prim.Native.Nat.{ℕ}
use mathlib.Core.Bool.{Bool, true, false, ◌&&◌, ◌||◌, not, true≢false, false≢true}
use lib.Dec.{T, eqb, eqb→eq, eqb_refl}

pub by_cases {ℓ} : {A : Type ℓ} (b : Bool) → (b ≡ true → A) → (b ≡ false → A) → A
by_cases true f g = f refl
by_cases false f g = g refl

pub iff : (a b : Bool) → (a ≡ true → b ≡ true) → (b ≡ true → a ≡ true) → a ≡ b
iff true b f g = sym (f refl)
iff false true f g = g refl
iff false false f g = refl

pub clash {ℓ} : {A : Type ℓ} {b : Bool} → b ≡ true → b ≡ false → A
clash h k = absurd (true≢false (sym h ∙ k))

pub false_of : (b : Bool) → (b ≡ true → ⊥) → b ≡ false
false_of true h = absurd (h refl)
false_of false h = refl

pub and_l : (a b : Bool) → (a && b) ≡ true → a ≡ true
and_l true b h = refl
and_l false b h = h

pub and_r : (a b : Bool) → (a && b) ≡ true → b ≡ true
and_r true b h = h
and_r false b h = absurd (false≢true h)

pub and_i : (a b : Bool) → a ≡ true → b ≡ true → (a && b) ≡ true
and_i true b h k = k
and_i false b h k = h

pub or_l : (a b : Bool) → (a || b) ≡ false → a ≡ false
or_l true b h = h
or_l false b h = refl

pub or_r : (a b : Bool) → (a || b) ≡ false → b ≡ false
or_r true b h = absurd (true≢false h)
or_r false b h = h

pub or-il : (a b : Bool) → a ≡ true → (a || b) ≡ true
or-il true b h = refl
or-il false b h = absurd (false≢true h)

pub or-ir : (a b : Bool) → b ≡ true → (a || b) ≡ true
or-ir true b h = refl
or-ir false b h = h

pub or_elim {ℓ} : {A : Type ℓ} (a b : Bool) → (a || b) ≡ true → (a ≡ true → A) → (b ≡ true → A) → A
or_elim true b h f g = f refl
or_elim false b h f g = g h

pub not-true : (b : Bool) → not b ≡ true → b ≡ false
not-true true h = absurd (false≢true h)
not-true false h = refl

pub not-false : (b : Bool) → not b ≡ false → b ≡ true
not-false true h = refl
not-false false h = absurd (true≢false h)

-- the tests on numbers
pub T_of : (b : Bool) → b ≡ true → T b
T_of true h = tt
T_of false h = absurd (false≢true h)

pub of_T : (b : Bool) → T b → b ≡ true
of_T true t = refl
of_T false t = absurd t

pub eqb-self : (n : ℕ) → eqb n n ≡ true
eqb-self n = of_T (eqb n n) (eqb_refl n)

pub eqb-true : (m n : ℕ) → eqb m n ≡ true → m ≡ n
eqb-true m n h = eqb→eq m n (T_of (eqb m n) h)

pub eqb-eq : {m n : ℕ} → m ≡ n → eqb m n ≡ true
eqb-eq {m} {n} e = subst (λ (k : ℕ). eqb m k ≡ true) e (eqb-self m)

pub eqb-ne : (m n : ℕ) → (m ≡ n → ⊥) → eqb m n ≡ false
eqb-ne m n h = false_of (eqb m n) (λ e. h (eqb-true m n e))

pub eqb-false : (m n : ℕ) → eqb m n ≡ false → m ≡ n → ⊥
eqb-false m n h e = true≢false (sym (eqb-eq e) ∙ h)

pub eqb-sym : (m n : ℕ) → eqb m n ≡ eqb n m
eqb-sym m n = iff (eqb m n) (eqb n m) (λ h. eqb-eq (sym (eqb-true m n h))) (λ h. eqb-eq (sym (eqb-true n m h)))

-- Booleans in another order
pub or-false : (b : Bool) → (b || false) ≡ b
or-false true = refl
or-false false = refl

pub and-move : (a b e : Bool) → (a && (b && e)) ≡ (b && (a && e))
and-move true true e = refl
and-move true false e = refl
and-move false true e = refl
and-move false false e = refl
