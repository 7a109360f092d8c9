-- The arms of the code's matches and branches on a word: what each gives, by the definition.
-- Assumes nothing.
use mathlib.Core.Path.{◌≡◌, refl}
use mathlib.Core.Bool.{Bool, true, false, cond}
use mathlib.Core.Option.{none, some}
use Prim.Native.Nat.{ℕ, ◌+◌, ◌*◌, ◌≤◌, ◌<◌}
use native.Mathlib.Omega.{arith}
use borrow.Author.Tests.{lt-ltb, le-ltb, eq-eqb, ne_eqb}
use lib.Dec.{eqb}
use Rattle.meaning.specs.Formula.{var}
use Rattle.qdimacs.specs.Faults.{SYNTAX, RANGE, TWICE, UNBOUND, COUNT}
use Rattle.qdimacs.specs.Words.{variable_of, plain_of, literal_of}
use Rattle.qdimacs.specs.Decide.{on_p, on_cnf, on_variable, on_literal, on_line}
use Rattle.qdimacs.specs.declared.Word.{Word}
use Rattle.qdimacs.specs.declared.Word.TheVariants.{P, Cnf, E, A, Plain, Minus, Other}
use Rattle.qdimacs.specs.declared.Move.{Move}
use Rattle.qdimacs.specs.declared.Move.TheVariants.{Fault, Close, Literal, Entry}

-- The arm `_`: the word is of a variant that no other arm names ----------------------------------------------
pub not-p : (w : Word) → (w ≡ P → ⊥) → Fault SYNTAX ≡ on_p w
unfolding on_p
not-p P h = absurd (h refl)
not-p Cnf h = refl
not-p E h = refl
not-p A h = refl
not-p (Plain n) h = refl
not-p (Minus n) h = refl
not-p Other h = refl

pub not-cnf : (w : Word) → (w ≡ Cnf → ⊥) → Fault SYNTAX ≡ on_cnf w
unfolding on_cnf
not-cnf P h = refl
not-cnf Cnf h = absurd (h refl)
not-cnf E h = refl
not-cnf A h = refl
not-cnf (Plain n) h = refl
not-cnf (Minus n) h = refl
not-cnf Other h = refl

pub not_plain : (w : Word) → ((n : ℕ) → w ≡ Plain n → ⊥) → plain_of w ≡ none
unfolding plain_of
not_plain P h = refl
not_plain Cnf h = refl
not_plain E h = refl
not_plain A h = refl
not_plain (Plain n) h = absurd (h n refl)
not_plain (Minus n) h = refl
not_plain Other h = refl

-- a word that is no number
pub not-number : (w : Word) → ((n : ℕ) → w ≡ Plain n → ⊥) → ((n : ℕ) → w ≡ Minus n → ⊥) → (literal_of w ≡ none) × (0 ≡ variable_of w)
unfolding literal_of variable_of
not-number P h k = (refl, refl)
not-number Cnf h k = (refl, refl)
not-number E h k = (refl, refl)
not-number A h k = (refl, refl)
not-number (Plain n) h k = absurd (h n refl)
not-number (Minus n) h k = absurd (k n refl)
not-number Other h k = (refl, refl)

pub not-letter : (m c : ℕ) (b : Bool) (w : Word) → (w ≡ E → ⊥) → (w ≡ A → ⊥)
    → on_line m c b w ≡ cond (eqb c 0) (Fault COUNT) (on_literal m b (literal_of w))
unfolding on_line literal_of on_literal
not-letter m c b P h k = refl
not-letter m c b Cnf h k = refl
not-letter m c b E h k = absurd (h refl)
not-letter m c b A h k = absurd (k refl)
not-letter m c b (Plain n) h k = refl
not-letter m c b (Minus n) h k = refl
not-letter m c b Other h k = refl

-- A number of a clause, as the literal l ---------------------------------------------------------------------
module _ (m : ℕ) (b : Bool) (l : ℕ) where
  pub lit-close : l ≡ 0 → Close ≡ on_literal m b (some l)
  unfolding on_literal
  lit-close e = rw (eq-eqb l 0 e)

  pub lit-range : m < var l → Fault RANGE ≡ on_literal m b (some l)
  unfolding on_literal var
  lit-range h = rw (ne_eqb l 0 (omega arith), lt-ltb m (var l) h)

  module _ (n : l ≡ 0 → ⊥) (h : var l ≤ m) where
    pub lit-seen : b ≡ true → Literal l ≡ on_literal m b (some l)
    unfolding on_literal
    lit-seen e = rw (ne_eqb l 0 n, le-ltb m (var l) h, e)

    pub lit-unbound : b ≡ false → Fault UNBOUND ≡ on_literal m b (some l)
    unfolding on_literal
    lit-unbound e = rw (ne_eqb l 0 n, le-ltb m (var l) h, e)

-- A variable v of a quantifier line --------------------------------------------------------------------------
module _ (q m : ℕ) (b : Bool) (z : Move) (v : ℕ) where
  pub var-ending : v ≡ 0 → z ≡ on_variable q m b z (some v)
  unfolding on_variable
  var-ending e = rw (eq-eqb v 0 e)

  module _ (n : v ≡ 0 → ⊥) where
    pub var-range : m < v → Fault RANGE ≡ on_variable q m b z (some v)
    unfolding on_variable
    var-range h = rw (ne_eqb v 0 n, lt-ltb m v h)

    module _ (h : v ≤ m) where
      pub var-twice : b ≡ true → Fault TWICE ≡ on_variable q m b z (some v)
      unfolding on_variable
      var-twice e = rw (ne_eqb v 0 n, le-ltb m v h, e)

      pub var-entry : b ≡ false → Entry (2 * v + q) ≡ on_variable q m b z (some v)
      unfolding on_variable
      var-entry e = rw (ne_eqb v 0 n, le-ltb m v h, e)
