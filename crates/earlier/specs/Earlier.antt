-- Whether a resolvent came before, looked for by the index.
-- Assumes nothing.
use Rattle.std.specs.Prelude.{ℕ, Bool, ◌&&◌, ◌||◌, cond, List, [], ◌∷◌, get_or, take}
use Rattle.meaning.specs.Lists.{any_of, has}
use Rattle.meaning.specs.Formula.{Formula, plain, negated}
use Rattle.meaning.specs.Tidy.{tidy}
use Rattle.resolvents.specs.Resolvent.{resolvent, becomes}

-- the clause c is the resolvent of x, which has the variable a, and of y, which has its opposite
unfoldable pub makes : Formula → ℕ → List ℕ → List ℕ → List ℕ → Bool
makes φ a c x y = has (plain a) x && (has (negated a) y && becomes c (tidy φ.prefix (resolvent a x y)))

-- the same of z and y: z is the positive one, or the negative one
unfoldable pub makes_with : Formula → ℕ → List ℕ → Bool → List ℕ → List ℕ → Bool
makes_with φ a c turned z y = cond turned (makes φ a c y z) (makes φ a c z y)

-- the literal of the variable that z has then, and the one that y has
unfoldable pub own_of : ℕ → Bool → ℕ
own_of a turned = cond turned (negated a) (plain a)

unfoldable pub other_of : ℕ → Bool → ℕ
other_of a turned = cond turned (plain a) (negated a)

-- one of the first b clauses makes it with z
unfoldable pub partnered : Formula → ℕ → List ℕ → Bool → ℕ → List ℕ → Bool
partnered φ a c turned b z = any_of (makes_with φ a c turned z) (take b φ.clauses)

-- the first literal of c that z lacks; o, if there is none
unfoldable pub lacking_of : List ℕ → ℕ → List ℕ → ℕ
lacking_of z o [] = o
lacking_of z o (l ∷ c) = cond (has l z) (lacking_of z o c) l

-- c is made by clauses p and q of an earlier pair: p is before clause m; or it is m, and q is before clause n
unfoldable pub made_earlier : Formula → ℕ → List ℕ → ℕ → ℕ → Bool
made_earlier φ a c m n =
    any_of (λ x. any_of (makes φ a c x) φ.clauses) (take m φ.clauses) || any_of (makes φ a c (get_or φ.clauses m [])) (take n φ.clauses)
