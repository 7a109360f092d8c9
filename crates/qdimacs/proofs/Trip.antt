-- "Reading it gives the same formula": what is written of a well formed formula within the limits reads back.
-- Assumes nothing.
use mathlib.Core.Path.{◌≡◌, refl, ap, ◌∙◌}
use mathlib.Core.Bool.{true, false}
use mathlib.Core.List.{List, [], ◌∷◌, ◌++◌, append-nil}
use Prim.Native.Nat.{ℕ, suc, ◌+◌, ◌≤◌}
use native.Mathlib.Omega.{arith}
use borrow.Author.Tests.{eq-eqb, ne_eqb, le-ltb, le-leb}
use lib.Dec.{leb}
use lib.ListN.{length, length-append}
use lib.Seq.{append_snoc}
use Rattle.meaning.specs.Lists.{all_of}
use Rattle.meaning.specs.Formula.{Formula, var}
use Rattle.meaning.specs.WellFormed.{bound, good_prefix, well_formed, literals, fits, max_variables, max_literals, max_text}
use Rattle.qdimacs.specs.Bytes.{is_blank, tokens_from, preamble, tokens}
use Rattle.qdimacs.specs.Read.{after_clause, on_tokens, reads, complete, good, finish, as_written, read}
use Rattle.qdimacs.specs.Write.{largest, prefix_lines, clause_lines, header, write}
use Rattle.qdimacs.specs.declared.Phase.{Phase}
use Rattle.qdimacs.specs.declared.Phase.TheVariants.{Line}
use Rattle.meaning.proofs.Basics.{and_l, and_r, and_i}
use Rattle.meaning.proofs.Parts.{good_of, bound_all, room_of}
use Rattle.meaning.proofs.Again.{tidied-same}
use Rattle.meaning.proofs.Weight.{literals-append}
use Rattle.qdimacs.proofs.Sizes.{largest-small, write-short}
use Rattle.qdimacs.proofs.Sound.{read_of, read-well-formed, read_fits}
use Rattle.qdimacs.proofs.Lines.{mk, header_read, prefix-read, Starts, starts-clause, starts-line, clause-read}

-- M is the largest prefix variable: none is over M
largest-all : (m : ℕ) (p : List ℕ) → largest p ≤ m → all_of (λ q. leb (var q) m) p ≡ true
unfolding largest all_of
largest-all m [] h = refl
largest-all m (q ∷ p) h = and_i (leb (var q) m) (all_of (λ q. leb (var q) m) p) (le-leb (var q) m (omega arith)) (largest-all m p (omega arith))

-- ready for the clauses that are left
Ready : Phase → ℕ → List (List ℕ) → Type 0
Ready ph c [] = complete ph c ≡ true
Ready ph c (d ∷ ds) = Starts ph c

ready-first : (ds : List (List ℕ)) → Ready Line (length ds) ds
unfolding Ready complete
ready-first [] = refl
ready-first (d ∷ ds) = starts-line (suc (length ds)) (omega arith)

ready-next : (c n : ℕ) (ds : List (List ℕ)) → n + suc (length ds) ≡ c → Ready (after_clause (n + 1) c) c ds
unfolding Ready complete after_clause
ready-next c n [] h = rw (eq-eqb (n + 1) c (omega arith))
ready-next c n (d ∷ ds) h = rw (ne_eqb (n + 1) c (omega arith)) (starts-clause c)

module _ (m c : ℕ) (p : List ℕ) (g : good_prefix p ≡ true) (numbers : all_of (λ q. leb (var q) m) p ≡ true) where
  clauses-read : (ds : List (List ℕ)) (ph : Phase) (cs : List (List ℕ)) (i n : ℕ) → Ready ph c ds → all_of (bound p) ds ≡ true
      → literals (cs ++ ds) ≤ max_literals → length cs + length ds ≡ c
      → finish n (on_tokens (reads (mk ph m c p cs [])) (tokens_from false i (clause_lines ds))) ≡ good (record { prefix = p; clauses = cs ++ ds })
  unfolding clause_lines Ready all_of finish on_tokens tokens_from
  clauses-read [] ph cs i n r b k e = rw (r, append-nil cs)
  clauses-read (d ∷ ds) ph cs i n r b k e =
      let l : literals (cs ++ (d ∷ [])) ≤ max_literals = omega (arith, ap literals (append_snoc cs d ds), literals-append (cs ++ (d ∷ [])) ds) in
      let t = (clause-read m c p g numbers d ph r cs [] (clause_lines ds) (search and_l) l).leads i in
      ap (finish n) t.1 ∙
      clauses-read ds (after_clause (length cs + 1) c) (cs ++ (d ∷ [])) t.0 n (ready-next c (length cs) ds e) (search and_r) (rw (append_snoc cs d ds) k) (rw (length-append cs (d ∷ [])) (omega arith)) ∙
      ap (λ (z : List (List ℕ)). good (record { prefix = p; clauses = z })) (append_snoc cs d ds)

no-preamble : (φ : Formula) → tokens (write φ) ≡ tokens_from false 0 (write φ)
unfolding tokens write header preamble is_blank
no-preamble φ = refl

module _ (φ : Formula) (w : well_formed φ ≡ true) (f : fits φ ≡ true) where
  -- as it is written
  pub written_back : as_written (write φ) ≡ good φ
  unfolding as_written write
  written_back =
      let r = room_of φ f in
      let m = largest φ.prefix in
      let c = length φ.clauses in
      let numbers = largest-all m φ.prefix (omega arith) in
      let a = (header_read m c (prefix_lines φ.prefix ++ clause_lines φ.clauses) (largest-small max_variables φ.prefix r.numbers) r.clauses).leads 0 in
      let b = (prefix-read m c φ.prefix (clause_lines φ.clauses) (good_of φ w) numbers).leads a.0 in
      rw (le-ltb max_text (length (write φ)) (write-short φ w f), no-preamble φ, a.1, b.1)
      (clauses-read m c φ.prefix (good_of φ w) numbers φ.clauses Line [] b.0 (length (write φ)) (ready-first φ.clauses) (bound_all φ w) r.literals (omega arith))

  -- and so as it is read
  pub round_trip : read (write φ) ≡ good φ
  round_trip = read_of (write φ) φ written_back ∙ ap good (tidied-same φ w)

-- whatever text is read: what was read of it, written, reads back
pub read_again : (s : List ℕ) (φ : Formula) → read s ≡ good φ → read (write φ) ≡ good φ
read_again s φ e = round_trip φ (read-well-formed s φ e) (read_fits s φ e)
