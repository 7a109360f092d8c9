-- The run by its turns: what is done so far, and what is left.
-- Assumes nothing.
use Prim.Native.Nat.{ℕ, zero, suc, ◌+◌, ◌-◌, ◌*◌, ◌<◌}
use mathlib.Core.Path.{◌≡◌, refl, sym, ap, ap₂, ◌∙◌}
use mathlib.Core.Bool.{Bool, true, not}
use mathlib.Core.List.{List, [], ◌∷◌, ◌++◌, append_assoc, append-nil}
use native.Mathlib.Numerals.{add-one}
use native.Mathlib.Omega.{arith}
use lib.ListN.{length, drop, take, length-append}
use lib.Seq.{drop-drop, take_at, drop_at}
use borrow.Rule.Slice.PartMut.{put_mid}
use Rattle.meaning.specs.Formula.{Formula}
use Rattle.rules.specs.Entry.{Kind, entry, entry_bytes, log_bytes}
use Rattle.rules.specs.Step.{result_of, stepped, step_of}
use Rattle.rules.specs.Run.{End, true_end, false_end, finished, out_of_room, ended, stopped, over, step, next, Ran, ran_nothing, logged, halt, onward, run_from}
use Rattle.rules.proofs.Next.{going}
use Rattle.table.proofs.ListLaws.{tail_written}
use Rattle.search.specs.Searched.{SearchedTo}
use Rattle.search.proofs.SearchedLaws.{searched-none}
use Rattle.choice.specs.Chosen.{end_as, next_as}
use Rattle.choice.specs.declared.Next.TheVariants as says
use Rattle.choice.specs.declared.End as choice
use Rattle.table.specs.Table.{counts_of}
use Rattle.table.specs.declared.Counts.{Counts}
use Rattle.apply.specs.Applied.{Known, Lends, Stands}
use Rattle.apply.proofs.StepLaws.{stepped-permitted}
use Rattle.table.proofs.DecodeLaws.{decode-holds}
use Rattle.course.specs.Course.{outcome_as, side_from, Here, RanAs}
use Rattle.course.proofs.HereLaws.{here-side, here-lends}
use Rattle.std.specs.Prelude.{Some, None}
use Rattle.course.specs.declared.Running.{Running}

-- the entries done, then a run
unfoldable pub with_log : List ℕ → Ran → Ran
with_log es r = record { outcome = r.outcome; final = r.final; log = es ++ r.log }

-- n steps of the run from φ are done: ψ stands, its first m clauses are searched, the entries are in the log, and what is left makes the whole
pub record Turns (φ : Formula) (E room : ℕ) (s : Bool) (log₀ a b log : List ℕ) (d : Counts) (n m : ℕ) : Type 0 where
  pub formula : Formula
  pub here : Here formula (side_from s n) a b d
  pub searched : SearchedTo formula m
  pub done : List ℕ
  pub count : length done ≡ n
  pub whole : run_from E room φ ≡ with_log done (run_from E (room - n) formula)
  pub written : log ≡ log_bytes done ++ drop (4 * n) log₀

-- what the code says is what the definition does
over-is : (x : Rattle.rules.specs.Run.Next) (e : choice.End) → says.Over e ≡ next_as x → (o : End) × ((x ≡ over o) × (e ≡ end_as o))
unfolding next_as
over-is (over o) e h = (o, (refl, cc))
over-is (step k a b) e h = let z : ◌≡◌ {A = ℕ} 0 1 = cc in absurd (omega arith)

record Stepping (x : Rattle.rules.specs.Run.Next) (e : ℕ) : Type 0 where
  kind : Kind
  a : ℕ
  b : ℕ
  is : x ≡ step kind a b
  number : e ≡ entry kind a b

step_is : (x : Rattle.rules.specs.Run.Next) (e : ℕ) → says.Step e ≡ next_as x → Stepping x e
unfolding next_as
step_is (over o) e h = let z : ◌≡◌ {A = ℕ} 0 1 = cc in absurd (omega arith)
step_is (step k a b) e h = record { kind = k; a = a; b = b; is = refl; number = cc }

-- The log ------------------------------------------------------------------------------------------------------
log-append : (es ds : List ℕ) → log_bytes (es ++ ds) ≡ log_bytes es ++ log_bytes ds
unfolding log_bytes
log-append [] ds = refl
log-append (e ∷ es) ds = ap (λ (l : List ℕ). entry_bytes e ++ l) (log-append es ds) ∙ sym (append_assoc (entry_bytes e) (log_bytes es) (log_bytes ds))

pub log-length : (es : List ℕ) → length (log_bytes es) ≡ 4 * length es
unfolding log_bytes entry_bytes
log-length [] = refl
log-length (e ∷ es) = omega (arith, log-length es)

log-one : (e : ℕ) → log_bytes (e ∷ []) ≡ entry_bytes e
unfolding log_bytes
log-one e = append-nil (entry_bytes e)

-- one entry more, written behind the others
log-more : (es log₀ : List ℕ) (n : ℕ) → length es ≡ n → (log : List ℕ) → log ≡ log_bytes es ++ drop (4 * n) log₀ → (e : ℕ) (log' : List ℕ) → log' ≡ take (4 * n) log ++ (entry_bytes e ++ drop 4 (drop (4 * n) log)) → log' ≡ log_bytes (es ++ (e ∷ [])) ++ drop (4 * (n + 1)) log₀
log-more es log₀ n h log k e log' w =
    let l : length (log_bytes es) ≡ 4 * n = log-length es ∙ ap (λ (m : ℕ). 4 * m) h in
    let t : take (4 * n) log ≡ log_bytes es = ap (take (4 * n)) k ∙ take_at (log_bytes es) (drop (4 * n) log₀) (4 * n) l in
    let d : drop (4 * n) log ≡ drop (4 * n) log₀ = ap (drop (4 * n)) k ∙ drop_at (log_bytes es) (drop (4 * n) log₀) (4 * n) l in
    let q : 4 * n + 4 ≡ 4 * (n + 1) = omega arith in
    let s : drop 4 (drop (4 * n) log) ≡ drop (4 * (n + 1)) log₀ = ap (drop 4) d ∙ drop-drop 4 (4 * n) log₀ ∙ ap (λ (m : ℕ). drop m log₀) q in
    w ∙ ap₂ (λ (x y : List ℕ). x ++ (entry_bytes e ++ y)) t s ∙ sym (append_assoc (log_bytes es) (entry_bytes e) (drop (4 * (n + 1)) log₀))
    ∙ ap (λ (x : List ℕ). x ++ drop (4 * (n + 1)) log₀) (sym (log-append es (e ∷ []) ∙ ap (λ (x : List ℕ). log_bytes es ++ x) (log-one e)))

-- The turns ----------------------------------------------------------------------------------------------------
run-over : (E m : ℕ) (ψ : Formula) (o : End) → next E ψ ≡ over o → run_from E m ψ ≡ ran_nothing (ended o) ψ
unfolding run_from halt onward
run-over E zero ψ o h = rw h
run-over E (suc m) ψ o h = rw h

run-stopped : (E : ℕ) (ψ : Formula) (k : Kind) (a b : ℕ) → next E ψ ≡ step k a b → run_from E 0 ψ ≡ ran_nothing stopped ψ
unfolding run_from halt
run-stopped E ψ k a b h = rw h

run_step : (E m : ℕ) (ψ : Formula) (k : Kind) (a b : ℕ) → next E ψ ≡ step k a b → run_from E (suc m) ψ ≡ logged (entry k a b) (run_from E m (result_of ψ k a b))
unfolding run_from onward
run_step E m ψ k a b h = rw h

module _ (φ : Formula) (E room : ℕ) (s : Bool) (log₀ : List ℕ) where
  -- before the first
  pub turns-start : {a b : List ℕ} {d : Counts} → Here φ s a b d → Turns φ E room s log₀ a b log₀ d 0 0
  unfolding side_from with_log log_bytes
  turns-start h = let z : room ≡ room - 0 = omega arith in record { formula = φ; here = h; searched = searched-none φ; done = []; count = refl; whole = ap (λ (m : ℕ). run_from E m φ) z; written = refl }

  module _ {a b log : List ℕ} {d : Counts} {n m : ℕ} (t : Turns φ E room s log₀ a b log d n m) where
    -- the choice leaves the spare table zero
    pub turns-chosen : {a' b' : List ℕ} → Stands t.formula d.second a' b' → Here t.formula (side_from s n) a' b' d
    turns-chosen k = record { stands = rw (here-side t.here) at k; counts = t.here.counts; well = t.here.well; room = t.here.room }

    -- no other formula stands there
    same_here : {a' b' : List ℕ} → Here t.formula (side_from s n) a' b' d → (χ : Formula) → Lends χ a' b' d → t.formula ≡ χ
    same_here k χ l = sym (decode-holds t.formula _ d (here-lends k).holds) ∙ decode-holds χ _ d l.holds

    pub turns-searched : (χ : Formula) → Lends χ a b d → SearchedTo χ m
    turns-searched χ l = rw (same_here t.here χ l) at t.searched

    -- the step that is chosen is permitted
    pub turns-known : (e : ℕ) → says.Step e ≡ next_as (next E t.formula) → {a' b' : List ℕ} → Here t.formula (side_from s n) a' b' d → (χ : Formula) → Lends χ a' b' d → Known χ e true
    turns-known e h {a'} {b'} k χ l =
        let ψ = t.formula in
        let p = step_is (next E ψ) e h in
        let g = going E ψ t.here.well t.here.room p.kind p.a p.b p.is in
        λ y. rw (same_here k χ l) at (stepped-permitted ψ _ e (ap (step_of ψ) p.number ∙ g.steps))

    -- nothing more is done
    ends : (o : Rattle.rules.specs.Run.Outcome) → run_from E (room - n) t.formula ≡ ran_nothing o t.formula → (r : Running) → r ≡ record { outcome = outcome_as o; counts = d; steps = n } → {a' b' : List ℕ} → Stands t.formula (side_from s n) a' b' → RanAs (run_from E room φ) s log₀ r a' b' log
    unfolding with_log ran_nothing
    ends o e r i {a'} {b'} k =
        let x : run_from E room φ ≡ record { outcome = o; final = t.formula; log = t.done } =
        t.whole ∙ ap (with_log t.done) e ∙ ap (λ (l : List ℕ). record { outcome = o; final = t.formula; log = l }) (append-nil t.done) in
        let y : RanAs (record { outcome = o; final = t.formula; log = t.done }) s log₀ (record { outcome = outcome_as o; counts = d; steps = n }) a' b' log =
        record {
          outcome = refl;
          steps = sym t.count;
          here = rw t.count (record { stands = k; counts = t.here.counts; well = t.here.well; room = t.here.room });
          written = rw t.count t.written;
        } in
        rw (x, i) y

    -- the run is over
    pub turns-over : (e : choice.End) → says.Over e ≡ next_as (next E t.formula) → {a' b' : List ℕ} → Stands t.formula (side_from s n) a' b' → RanAs (run_from E room φ) s log₀ (record { outcome = Some e; counts = d; steps = n }) a' b' log
    unfolding outcome_as
    turns-over e h k =
        let o = over-is (next E t.formula) e h in
        ends (ended o.0) (run-over E (room - n) t.formula o.0 o.1.0) (record { outcome = Some e; counts = d; steps = n })
        (ap (λ (x : choice.End). record { outcome = Some x; counts = d; steps = n }) o.1.1) k

    -- no step is left
    pub turns_stopped : (e : ℕ) → says.Step e ≡ next_as (next E t.formula) → n ≡ room → {a' b' : List ℕ} → Stands t.formula (side_from s n) a' b' → RanAs (run_from E room φ) s log₀ (record { outcome = None; counts = d; steps = n }) a' b' log
    unfolding outcome_as
    turns_stopped e h l k =
        let p = step_is (next E t.formula) e h in
        let z : room - n ≡ 0 = omega arith in
        ends stopped (ap (λ (i : ℕ). run_from E i t.formula) z ∙ run-stopped E t.formula p.kind p.a p.b p.is) (record { outcome = None; counts = d; steps = n }) refl k

    -- one step more
    pub turns_next : (e : ℕ) → says.Step e ≡ next_as (next E t.formula) → n < room → {a' b' log' : List ℕ} {d' : Counts} {m' : ℕ}
        → ((k : Kind) (x y : ℕ) → next E t.formula ≡ step k x y → SearchedTo (result_of t.formula k x y) m')
        → ((χ : Formula) → step_of t.formula e ≡ stepped χ → (d' ≡ counts_of χ (not d.second)) × Stands χ (not d.second) a' b')
        → log' ≡ take (4 * n) log ++ (entry_bytes e ++ drop 4 (drop (4 * n) log)) → Turns φ E room s log₀ a' b' log' d' (n + 1) m'
    unfolding side_from with_log logged counts_of
    turns_next e h l {a'} {b'} {log'} {d'} {m'} i k w =
        let ψ = t.formula in
        let p = step_is (next E ψ) e h in
        let χ = result_of ψ p.kind p.a p.b in
        let g = going E ψ t.here.well t.here.room p.kind p.a p.b p.is in
        let q = k χ (ap (step_of ψ) p.number ∙ g.steps) in
        let side : not d.second ≡ side_from s (n + 1) = rw (add-one n) (ap not (ap (λ (c : Counts). c.second) t.here.counts)) in
        let less : room - n ≡ suc (room - (n + 1)) = omega arith in
        record {
          formula = χ;
          here = record { stands = rw side at q.1; counts = q.0 ∙ ap (counts_of χ) side; well = g.kept.well; room = g.kept.room };
          searched = i p.kind p.a p.b p.is;
          done = t.done ++ (e ∷ []);
          count = length-append t.done (e ∷ []) ∙ ap (λ (i : ℕ). i + 1) t.count;
          whole =
              t.whole
              ∙ ap (with_log t.done) (ap (λ (j : ℕ). run_from E j ψ) less ∙ run_step E (room - (n + 1)) ψ p.kind p.a p.b p.is)
              ∙ ap (λ (x : List ℕ). record { outcome = (run_from E (room - (n + 1)) χ).outcome; final = (run_from E (room - (n + 1)) χ).final; log = x })
              (ap (λ (i : ℕ). t.done ++ (i ∷ (run_from E (room - (n + 1)) χ).log)) (sym p.number) ∙ sym (append_assoc t.done (e ∷ []) (run_from E (room - (n + 1)) χ).log));
          written = log-more t.done log₀ n t.count log t.written e log' w;
        }

-- the log after an entry is written into its tail from place i on
pub entry-written : (log tail : List ℕ) (i e : ℕ) → tail ≡ entry_bytes e ++ drop 4 (take (length log - i) (drop i log)) → put_mid i (length log - i) log tail ≡ take i log ++ (entry_bytes e ++ drop 4 (drop i log))
unfolding entry_bytes
entry-written log tail i e h = tail_written log (entry_bytes e) tail i h
