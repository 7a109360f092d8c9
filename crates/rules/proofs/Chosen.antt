-- What `choose` takes counts and comes first; where it is stuck no entry counts. Assumes nothing.
use mathlib.Core.Path.{◌≡◌, refl, sym, ◌∙◌, ap, subst}
use Prim.Native.Nat.{ℕ}
use mathlib.Core.Bool.{Bool, true, false, false≢true}
use mathlib.Core.List.{List, [], ◌∷◌, map}
use lib.Dec.{eqb}
use Rattle.meaning.specs.Lists.{any_of, has}
use Rattle.meaning.specs.Formula.{Formula}
use Rattle.meaning.specs.WellFormed.{fits}
use Rattle.rules.specs.Entry.{Kind, unit, pure, subsume, strengthen, equality, resolve, expand, code, entry, Call, bad, call, read_entry}
use Rattle.rules.specs.Choice.{allowed_call, blocked_call, on_call, allowed, blocked, Found, none, found, firsts, candidate, any_blocked, take_step, stuck, take_found, choose_of, kinds, choose, seconds, Choice}
use Rattle.meaning.proofs.Basics.{clash, and_l, and_r, or-il, or-ir, or_elim, not-true, eqb-true, eqb-self}
use Rattle.meaning.proofs.Lists.{any-has, any-witness, any_some, any-map}
use Rattle.rules.proofs.Before.{before, sooner, precedes}
use Rattle.rules.proofs.Entries.{Fields, read-entry, entry_read, code-inj}
use Rattle.rules.proofs.Choose.{Used, Listed, listed, fields-of, Best, find-found, find_none}
use Rattle.rules.proofs.Permitted.{wanted-permitted, blocked-wanted}

-- The kinds in order -----------------------------------------------------------------------------------------
kinds-any : (f : Kind → Bool) (k : Kind) → f k ≡ true → any_of f kinds ≡ true
unfolding any_of
kinds-any f unit h = search or-il
kinds-any f pure h = search (or-il, or-ir) depth 9
kinds-any f subsume h = search (or-il, or-ir) depth 9
kinds-any f strengthen h = search (or-il, or-ir) depth 9
kinds-any f equality h = search (or-il, or-ir) depth 9
kinds-any f resolve h = search (or-il, or-ir) depth 9
kinds-any f expand h = search (or-il, or-ir) depth 9

all_kinds : (k : Kind) → has (code k) (map code kinds) ≡ true
unfolding has
all_kinds k = any-map _ code kinds ∙ kinds-any _ k (eqb-self (code k))

module _ (E : ℕ) (φ : Formula) where
  record Taken (ks : List Kind) (k : Kind) (a b : ℕ) : Type 0 where
    at : candidate E φ k ≡ found a b
    sooner-none : (j : Kind) → before (map code ks) (code j) (code k) ≡ true → candidate E φ j ≡ none

  record Stuck (ks : List Kind) (r : Bool) : Type 0 where
    for-room : any_blocked E φ ≡ r
    none_of : (j : Kind) → has (code j) (map code ks) ≡ true → candidate E φ j ≡ none

  -- what the choice says, by what it is
  abbrev Chose : List Kind → Choice → Type 0
  Chose ks (take_step k a b) = Taken ks k a b
  Chose ks (stuck r) = Stuck ks r

  chose : (ks : List Kind) → Chose ks (choose_of E φ ks)
  unfolding choose_of take_found before has any_of
  chose [] = record { for-room = refl; none_of = λ j h. absurd (false≢true h) }
  chose (x ∷ ks) = go (candidate E φ x) refl (choose_of E φ ks) (chose ks)
    where
      go : (f : Found) → candidate E φ x ≡ f → (c : Choice) → Chose ks c → Chose (x ∷ ks) (take_found x f c)
      go (found a b) h c t = record { at = h; sooner-none = λ j l. clash (eqb-self (code x)) (search (and_l, not-true)) }
      go none h (take_step k a b) t =
          record {
            at = t.at;
            sooner-none = λ j l. or_elim (eqb (code x) (code j)) _ (search and_r) (λ q. ap (candidate E φ) (sym (code-inj x j (eqb-true _ _ q))) ∙ h) (t.sooner-none j);
          }
      go none h (stuck r) t =
          record {
            for-room = t.for-room;
            none_of = λ j l. or_elim (eqb (code j) (code x)) _ l (λ q. ap (candidate E φ) (code-inj j x (eqb-true _ _ q)) ∙ h) (t.none_of j);
          }

  stuck-of : (r : Bool) → choose E φ ≡ stuck r → Stuck kinds r
  unfolding choose
  stuck-of r h = subst (Chose kinds) h (chose kinds)

  -- What is taken ---------------------------------------------------------------------------------------------
  -- the step (k, a, b) counts, has an entry, and no entry that counts is of a kind that is tried sooner, or of its kind and before it
  pub record Takes (k : Kind) (a b : ℕ) : Type 0 where
    pub counts : allowed_call E φ k a b ≡ true
    pub is-listed : Listed φ k a b
    pub first_kind : (e : ℕ) (j : Kind) (c d : ℕ) → read_entry e ≡ call j c d → sooner j k ≡ true → allowed E φ e ≡ false
    pub first-of-kind : (e c d : ℕ) → read_entry e ≡ call k c d → precedes φ k c d a b ≡ true → allowed E φ e ≡ false

  not-allowed : (e : ℕ) (j : Kind) (c d : ℕ) → read_entry e ≡ call j c d → (Used j d → allowed_call E φ j c d ≡ false) → allowed E φ e ≡ false
  unfolding allowed on_call
  not-allowed e j c d r f = rw r (f (entry_read e j c d r).fields.b-used)

  pub choose-takes : (k : Kind) (a b : ℕ) → choose E φ ≡ take_step k a b → Takes k a b
  unfolding choose sooner
  choose-takes k a b h = record { counts = best.counts; is-listed = best.listed-as; first_kind = no-sooner; first-of-kind = first_one }
    where
      t : Taken kinds k a b
      t = subst (Chose kinds) h (chose kinds)

      best : Best E φ k a b
      best = find-found E φ k a b t.at

      no-sooner : (e : ℕ) (j : Kind) (c d : ℕ) → read_entry e ≡ call j c d → before (map code kinds) (code j) (code k) ≡ true → allowed E φ e ≡ false
      no-sooner e j c d r l = not-allowed e j c d r (find_none E φ j (t.sooner-none j l) c d)

      first_one : (e c d : ℕ) → read_entry e ≡ call k c d → precedes φ k c d a b ≡ true → allowed E φ e ≡ false
      first_one e c d r p = not-allowed e k c d r (λ u. best.first c d u p)

  -- its entry is no bad one, and counts
  pub takes-fields : fits φ ≡ true → (k : Kind) (a b : ℕ) → choose E φ ≡ take_step k a b → Fields k a b
  takes-fields f k a b h = fields-of φ f k a b (choose-takes k a b h).is-listed

  pub takes-allowed : fits φ ≡ true → (k : Kind) (a b : ℕ) → choose E φ ≡ take_step k a b → allowed E φ (entry k a b) ≡ true
  unfolding allowed on_call
  takes-allowed f k a b h = rw (read-entry k a b (takes-fields f k a b h)) (choose-takes k a b h).counts

  -- Where nothing is taken ------------------------------------------------------------------------------------
  no_call : ((j : Kind) → candidate E φ j ≡ none) → (e : ℕ) (c : Call) → read_entry e ≡ c → allowed E φ e ≡ false
  no_call n e bad r = unfold allowed on_call in rw r
  no_call n e (call j c d) r = not-allowed e j c d r (find_none E φ j (n j) c d)

  pub stuck-none : (r : Bool) → choose E φ ≡ stuck r → (e : ℕ) → allowed E φ e ≡ false
  unfolding choose
  stuck-none r h e = no_call (λ j. (stuck-of r h).none_of j (all_kinds j)) e (read_entry e) refl

  blocked-any : (k : Kind) (a b : ℕ) → Used k b → blocked_call E φ k a b ≡ true → any_blocked E φ ≡ true
  unfolding any_blocked
  blocked-any k a b u h =
      let l : Listed φ k a b = listed φ k a b u (wanted-permitted E φ k a b (blocked-wanted E φ k a b h)) in
      kinds-any _ k (any-has _ _ a l.0 (any-has _ _ b l.1 h))

  blocked-call : (e : ℕ) (c : Call) → read_entry e ≡ c → on_call (blocked_call E φ) c ≡ true → any_blocked E φ ≡ true
  unfolding on_call
  blocked-call e bad r h = absurd (false≢true h)
  blocked-call e (call k a b) r h = blocked-any k a b (entry_read e k a b r).fields.b-used h

  -- stuck for room exactly if some entry fails only for room
  pub stuck-blocked : (r : Bool) → choose E φ ≡ stuck r → (e : ℕ) → blocked E φ e ≡ true → r ≡ true
  unfolding choose blocked
  stuck-blocked r h e b = sym (stuck-of r h).for-room ∙ blocked-call e (read_entry e) refl b

  pub stuck-room : fits φ ≡ true → choose E φ ≡ stuck true → (e : ℕ) × (blocked E φ e ≡ true)
  unfolding choose any_blocked blocked on_call
  stuck-room f h =
      let x : (k : Kind) × (any_of (λ a. any_of (blocked_call E φ k a) (seconds φ k)) (firsts φ k) ≡ true) =
      any_some _ kinds (stuck-of true h).for-room in
      let y : (a : ℕ) × (has a (firsts φ x.0) ≡ true) × (any_of (blocked_call E φ x.0 a) (seconds φ x.0) ≡ true) =
      any-witness _ _ x.1 in
      let z : (b : ℕ) × (has b (seconds φ x.0) ≡ true) × (blocked_call E φ x.0 y.0 b ≡ true) = any-witness _ _ y.2 in
      (entry x.0 y.0 z.0, rw (read-entry x.0 y.0 z.0 (fields-of φ f x.0 y.0 z.0 (y.1, z.1))) z.2)
