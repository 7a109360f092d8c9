-- A table and its counts give the formula back, so a table holds at most one formula.
-- Assumes nothing.
use Prim.Native.Nat.{ℕ, ◌+◌, ◌-◌}
use mathlib.Core.Path.{◌≡◌, refl, sym, ap, ◌∙◌}
use mathlib.Core.Bool.{Bool}
use mathlib.Core.List.{List, [], ◌∷◌, ◌++◌, append_assoc}
use lib.ListN.{length, take, drop, replicate, length-append}
use lib.Seq.{take_at, drop_at}
use native.Mathlib.Nat.{add-sub_cancel_left}
use Rattle.meaning.specs.Formula.{Formula}
use Rattle.table.specs.Table.{all_literals, ends_from, table_of, counts_of, cut, decode, Holds}
use Rattle.table.specs.declared.Counts.{Counts}
use Rattle.meaning.proofs.Parts.{Room}
use Rattle.table.proofs.TableLaws.{table-prefix, table-ends, table-rest}
use Rattle.table.proofs.HoldLaws.{room}

cut-ends : (k : ℕ) (cs : List (List ℕ)) (pre zs : List ℕ) → length pre ≡ k → cut k (ends_from k cs) (pre ++ (all_literals cs ++ zs)) ≡ cs
unfolding cut ends_from all_literals
cut-ends k [] pre zs e = refl
cut-ends k (c ∷ cs) pre zs e =
    let a : drop k (pre ++ (c ++ all_literals cs ++ zs)) ≡ c ++ all_literals cs ++ zs = drop_at pre (c ++ all_literals cs ++ zs) k e in
    let b : k + length c - k ≡ length c = add-sub_cancel_left k (length c) in
    let h : take (k + length c - k) (drop k (pre ++ (c ++ all_literals cs ++ zs))) ≡ c =
    ap (λ (l : List ℕ). take (k + length c - k) l) (a ∙ append_assoc c (all_literals cs) zs)
    ∙ take_at c (all_literals cs ++ zs) (k + length c - k) (sym b) in
    let t : pre ++ (c ++ all_literals cs ++ zs) ≡ pre ++ c ++ (all_literals cs ++ zs) =
    ap (λ (l : List ℕ). pre ++ l) (append_assoc c (all_literals cs) zs) ∙ sym (append_assoc pre c (all_literals cs ++ zs)) in
    ap (λ (x : List ℕ). x ∷ cut (k + length c) (ends_from (k + length c) cs) (pre ++ (c ++ all_literals cs ++ zs))) h
    ∙ ap (λ (l : List ℕ). c ∷ cut (k + length c) (ends_from (k + length c) cs) l) t
    ∙ ap (λ (r : List (List ℕ)). c ∷ r) (cut-ends (k + length c) cs (pre ++ c) zs (length-append pre c ∙ ap (λ (n : ℕ). n + length c) e))

decode-table : (φ : Formula) (f : Room φ) (b : Bool) → decode (table_of φ) (counts_of φ b) ≡ φ
unfolding decode counts_of
decode-table φ f b =
    ap (λ (x : List ℕ). record { prefix = x; clauses = cut 0 (take (length φ.clauses) (drop 1023 (table_of φ))) (drop 3070 (table_of φ)) }) (table-prefix φ f)
    ∙ ap (λ (x : List ℕ). record { prefix = φ.prefix; clauses = cut 0 x (drop 3070 (table_of φ)) }) (table-ends φ f)
    ∙ ap (λ (x : List ℕ). record { prefix = φ.prefix; clauses = cut 0 (ends_from 0 φ.clauses) x }) (table-rest φ f)
    ∙ ap (λ (x : List (List ℕ)). record { prefix = φ.prefix; clauses = x }) (cut-ends 0 φ.clauses [] (replicate (8191 - length (all_literals φ.clauses)) 0) refl)

pub decode-holds : (φ : Formula) (t : List ℕ) (c : Counts) → Holds φ t c → decode t c ≡ φ
decode-holds φ t c h =
    ap (λ (x : List ℕ). decode x c) h.table ∙ ap (decode (table_of φ)) h.counts ∙ decode-table φ (room h) c.second

pub holds-decoded : {φ : Formula} {t : List ℕ} {c : Counts} → Holds φ t c → Holds (decode t c) t c
holds-decoded {φ} {t} {c} h = rw (decode-holds φ t c h) h
