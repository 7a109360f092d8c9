-- What each move does to the state, and to what holds it.
-- Assumes nothing.
use mathlib.Core.Path.{◌≡◌, refl, sym, ◌∙◌}
use mathlib.Core.Bool.{Bool, true, false, ◌&&◌}
use mathlib.Core.List.{List, [], ◌∷◌, ◌++◌}
use Prim.Native.Nat.{ℕ, ◌+◌, ◌/◌, ◌≤◌, ◌<◌}
use native.Mathlib.Omega.{arith}
use borrow.Author.Tests.{le-ltb, ltb-false, leb-true}
use lib.Dec.{leb}
use lib.ListN.{length, length-append}
use Rattle.meaning.specs.Lists.{all_of}
use Rattle.meaning.specs.Formula.{var, mentions}
use Rattle.meaning.specs.Tidy.{tidy, add_tidied, build_on, build, tidied}
use Rattle.meaning.specs.WellFormed.{fits, max_variables, max_clauses, max_literals}
use Rattle.qdimacs.specs.Faults.{TOO-BIG}
use Rattle.qdimacs.specs.Read.{State, faulty, after_clause, passes_literals, act}
use Rattle.qdimacs.specs.declared.Phase.{Phase}
use Rattle.qdimacs.specs.declared.Move.{Move}
use Rattle.qdimacs.specs.declared.Move.TheVariants.{Fault, Go, SetM, SetC, Entry, Literal, Close}
use Rattle.table.specs.Table.{with_raw, with_variable}
use Rattle.table.specs.Answer.{Became}
use Rattle.table.specs.Ranks.{ranks_of}
use Rattle.table.specs.Pending.{Pends}
use Rattle.table.specs.declared.Counts.{Counts}
use Rattle.std.specs.Prelude.{Option, Some, None, Ok, Err}
use Rattle.marks.specs.Marks.{Marked, Went}
use Rattle.tracks.specs.Tracks.{so_far, in_phase, with_m, with_c, with_entry, with_pending, with_closed, Stores, Tracks, Allowed, entered, Entered, Steps}
use Rattle.tracks.specs.declared.Reader.{Reader}
use Rattle.meaning.proofs.Basics.{by_cases, clash, and_l, and_r}
use Rattle.meaning.proofs.Lists.{all_append}
use Rattle.meaning.proofs.Parts.{room_of, of_room}
use Rattle.meaning.proofs.Prefix.{good-next, prefix-few}
use Rattle.meaning.proofs.Weight.{build-less}
use Rattle.table.proofs.HoldLaws.{room, count-variables}
use Rattle.table.proofs.AnswerLaws.{became-fits, became-done, became-second, became-full}
use Rattle.table.proofs.PendingLaws.{pends-empty}

-- An entry -----------------------------------------------------------------------------------------------------
last-number : (p : List ℕ) (e : ℕ) → all_of (λ q. leb (var q) max_variables) (p ++ (e ∷ [])) ≡ true → e < 2048
unfolding all_of var
last-number p e h =
    let k = and_r (all_of (λ q. leb (var q) max_variables) p) (leb (e / 2) max_variables && true) (sym (all_append (λ q. leb (var q) max_variables) p (e ∷ [])) ∙ h) in
    omega (arith, leb-true (e / 2) max_variables (and_l (leb (e / 2) max_variables) true k))

entered-formula : (st : State) (e : ℕ) → st.clauses ≡ [] → so_far (entered st e) ≡ with_variable (so_far st) e
unfolding so_far entered tidied build build_on with_variable
entered-formula st e h = rw h

module _ (st : State) (r : Reader) (t k : List ℕ) (h : Stores st r t k) (e : ℕ) (a : Allowed st (Entry e)) where
  entry-few : length st.prefix < max_variables
  entry-few = omega (arith, prefix-few max_variables (st.prefix ++ (e ∷ [])) a.0 a.1, length-append st.prefix (e ∷ []))

  entry-count : length st.prefix ≡ r.counts.variables
  entry-count = unfold so_far tidied in sym (count-variables h.table)

  -- what adding a rank asks for
  pub entry-rank : (r.counts.variables < 1023) × (e < 2048)
  entry-rank = (omega (arith, entry-few, entry-count), last-number st.prefix e a.1)

  entry-fits : fits (with_variable (so_far st) e) ≡ true
  unfolding with_variable so_far tidied
  entry-fits =
      let q = room h.table in
      of_room _ (record { variables = omega (arith, prefix-few max_variables (st.prefix ++ (e ∷ [])) a.0 a.1); numbers = a.1; clauses = q.clauses; literals = q.literals })

  module _ (x : Option Counts) (t' : List ℕ) (b : Became (so_far st) (with_variable (so_far st) e) r.counts.second x t') where
    -- the table has room for it
    pub entry-never : x ≡ None → ⊥
    entry-never f = clash entry-fits (became-full _ _ _ _ _ b f)

    pub entry_done : (d : Counts) → x ≡ Some d → (n : Reader) → n ≡ with_entry r e d → (k' : List ℕ)
        → ((p : List ℕ) → length p ≡ r.counts.variables → mentions p (var e) ≡ false → k ≡ ranks_of p → k' ≡ ranks_of (p ++ (e ∷ [])))
        → Entered st r e n t' k'
    unfolding entered
    entry_done d f n q k' ranked =
        rw q (record {
          stores = record {
            phase = refl;
            m = h.m;
            c = h.c;
            closed = h.closed;
            table = rw (entered-formula st e a.2) (became-done _ _ _ _ _ b d f);
            first = became-second _ _ _ _ _ b d f ∙ h.first;
            ranks = ranked st.prefix entry-count (good-next st.prefix e [] a.0).1 h.ranks;
          };
          pending = refl;
        })

-- the table and the marks of a state
pub tracks-marked : {st : State} {r : Reader} {t s k m : List ℕ} → Tracks st r t s k m → Marked t r.counts m
tracks-marked {st} h = record { formula = so_far st; holds = h.stores.table; marks = h.marked }

-- A closing 0 --------------------------------------------------------------------------------------------------
build-on-snoc : (p : List ℕ) (cs raws : List (List ℕ)) (raw : List ℕ) → build_on p cs (raws ++ (raw ∷ [])) ≡ add_tidied (build_on p cs raws) (tidy p raw)
unfolding build_on
build-on-snoc p cs [] raw = refl
build-on-snoc p cs (x ∷ raws) raw = build-on-snoc p (add_tidied cs (tidy p x)) raws raw

unfoldable pub closing : State → State
closing st =
    record { phase = after_clause (length st.clauses + 1) st.c; m = st.m; c = st.c; prefix = st.prefix; clauses = st.clauses ++ (st.pending ∷ []); pending = [] }

closed-formula : (st : State) → so_far (closing st) ≡ with_raw (so_far st) st.pending
unfolding closing so_far tidied with_raw build
closed-formula st = λ i. record { prefix = st.prefix; clauses = build-on-snoc st.prefix [] st.clauses st.pending i }

module _ (st : State) (r : Reader) (t s k m : List ℕ) (h : Tracks st r t s k m) (a : Allowed st Close) where
  pub close-few : r.closed ≤ max_clauses
  close-few = omega (arith, h.stores.closed, a.1)

  abbrev passes : Bool
  passes = passes_literals st.prefix (st.clauses ++ (st.pending ∷ []))

  fits-passes : fits (so_far (closing st)) ≡ true → passes ≡ false
  unfolding passes_literals so_far closing tidied
  fits-passes f = le-ltb _ _ (room_of _ f).literals

  passes-fits : passes ≡ false → fits (so_far (closing st)) ≡ true
  unfolding passes_literals so_far closing tidied
  passes-fits f =
      let q = room h.stores.table in
      of_room _ (record {
        variables = q.variables;
        numbers = q.numbers;
        clauses = omega (arith, (build-less st.prefix (st.clauses ++ (st.pending ∷ []))).0, length-append st.clauses (st.pending ∷ []), a.2 f);
        literals = ltb-false max_literals _ f;
      })

  module _ (x : Option Counts) (t' m' : List ℕ) (w : Went (so_far st) (with_raw (so_far st) st.pending) r.counts.second x t' m') (at : ℕ) where
    abbrev b : Became (so_far st) (with_raw (so_far st) st.pending) r.counts.second x t'
    b = w.became

    pub close-full : x ≡ None → act st at Close ≡ faulty TOO-BIG at
    unfolding act
    close-full f =
        by_cases passes (λ p. rw p)
        (λ p. clash (rw (closed-formula st) at (passes-fits p)) (became-full _ _ _ _ _ b f))

    pub close-done : (d : Counts) → x ≡ Some d → (n : Reader) → n ≡ with_closed r d → (s' : List ℕ) → length s' ≡ max_variables
        → Steps st at Close (Ok n) t' s' k m'
    unfolding act closing
    close-done d f n q s' long = (
      closing st,
      rw (fits-passes (rw (closed-formula st) (became-fits _ _ _ _ _ b d f))),
      rw q (record {
        stores = record {
          phase = rw (h.stores.closed, h.stores.c);
          m = h.stores.m;
          c = h.stores.c;
          closed = rw h.stores.closed (sym (length-append st.clauses (st.pending ∷ [])));
          table = rw (closed-formula st) (became-done _ _ _ _ _ b d f);
          first = became-second _ _ _ _ _ b d f ∙ h.stores.first;
          ranks = h.stores.ranks;
        };
        pending = pends-empty s' long;
        marked = rw (closed-formula st) (rw (became-fits _ _ _ _ _ b d f) at w.marks);
      }),
    )

-- A move, as the code matches it ------------------------------------------------------------------------------
module _ (st : State) (r : Reader) (t s k m : List ℕ) (h : Tracks st r t s k m) (at : ℕ) (mv : Move) where
  pub step-fault : (x : ℕ) → mv ≡ Fault x → Steps st at mv (Err x) t s k m
  unfolding act
  step-fault x e = rw e

  pub step-go : (ph : Phase) → mv ≡ Go ph → (n : Reader) → n ≡ in_phase r ph → Steps st at mv (Ok n) t s k m
  unfolding act so_far
  step-go ph e n q =
      let o = h.stores in
      rw (e, q) (
        _,
        refl,
        record {
          stores = record { phase = refl; m = o.m; c = o.c; closed = o.closed; table = o.table; first = o.first; ranks = o.ranks };
          pending = h.pending;
          marked = h.marked;
        },
      )

  pub step-m : (x : ℕ) → mv ≡ SetM x → (n : Reader) → n ≡ with_m r x → Steps st at mv (Ok n) t s k m
  unfolding act so_far
  step-m x e n q =
      let o = h.stores in
      rw (e, q) (
        _,
        refl,
        record {
          stores = record { phase = refl; m = refl; c = o.c; closed = o.closed; table = o.table; first = o.first; ranks = o.ranks };
          pending = h.pending;
          marked = h.marked;
        },
      )

  pub step-c : (x : ℕ) → mv ≡ SetC x → (n : Reader) → n ≡ with_c r x → Steps st at mv (Ok n) t s k m
  unfolding act so_far
  step-c x e n q =
      let o = h.stores in
      rw (e, q) (
        _,
        refl,
        record {
          stores = record { phase = refl; m = o.m; c = refl; closed = o.closed; table = o.table; first = o.first; ranks = o.ranks };
          pending = h.pending;
          marked = h.marked;
        },
      )

  pub step-entry : (x : ℕ) → mv ≡ Entry x → Allowed st (Entry x) → (n : Reader) (t' k' : List ℕ) → Entered st r x n t' k'
      → Steps st at mv (Ok n) t' s k' m
  unfolding act entered
  step-entry x e a n t' k' d =
      rw e (
        _,
        refl,
        record {
          stores = d.stores;
          pending = rw d.pending h.pending;
          marked = rw (entered-formula st x a.2) (unfold with_variable in h.marked);
        },
      )

  pub step-literal : (x : ℕ) → mv ≡ Literal x → (n : Reader) (q : Option ℕ) → n ≡ with_pending r q → (s' : List ℕ)
      → Pends (st.pending ++ (x ∷ [])) s' q → Steps st at mv (Ok n) t s' k m
  unfolding act so_far
  step-literal x e n q p s' d =
      let o = h.stores in
      rw (e, p) (
        _,
        refl,
        record {
          stores = record { phase = refl; m = o.m; c = o.c; closed = o.closed; table = o.table; first = o.first; ranks = o.ranks };
          pending = d;
          marked = h.marked;
        },
      )
