-- Two layouts of a document are the same but at the ids of empty lists: by recursion on the tree.
-- Assumes nothing.
use Prim.Native.Nat.{ℕ, zero, suc, ◌+◌, ◌-◌}
use mathlib.Core.Bool.{Bool, true, false, ◌&&◌}
use mathlib.Core.List.{List, ◌∷◌, ◌++◌}
use mathlib.Core.Path.{◌≡◌, refl, sym, ap, ◌∙◌}
use native.Mathlib.Omega.{arith}
use lib.Dec.{ltb, eqb}
use borrow.Author.Tests.{ltb-true, ltb-false}
use lib.ListN.{length, get_or, length-append, get_or-append}
use lib.Seq.{get_or-append-add}
use Rattle.form.specs.Form.{Form}
use Rattle.form.specs.Answer.{pick}
use Rattle.form.specs.Numbers.{bytes_in}
use Rattle.form.specs.Tree.{Tag, Tags, Entries, byte, short, int, long, float, double, byte_array, string, list, compound, int_array, long_array, nil, more, ended, entry, kind_of, many}
use Rattle.form.specs.Layout.{string_bytes_in, ListId, list_id, PayloadIn, ElementsIn, EntryBytesIn, payload_in, element_bytes_in, entry_bytes_in, layout_in}
use Rattle.form.proofs.Orders.{bytes-length}
use Rattle.form.proofs.Picks.{differ}
use Rattle.demands.specs.Writing.{is_nil, id_in, element_id_in, entry_id_in, Near, IsNear}
use Rattle.demands.proofs.Fields.{string-length}

near-is : (s : ℕ → Bool) {bs cs : List ℕ} → bs ≡ cs → Near s bs cs
near-is s e = record { long = ap length e; same = λ k z. ap (λ l. get_or l k 0) e }

-- one after the other; m is how many the first are
near-append : (s t : ℕ → Bool) (bs cs xs ys : List ℕ) (m : ℕ) → length cs ≡ m → Near s bs cs → Near t xs ys
    → Near (λ k. pick (ltb k m) (s k) (t (k - m))) (bs ++ xs) (cs ++ ys)
near-append s t bs cs xs ys m e a b = record {
  long = length-append bs xs ∙ omega (arith, a.long, b.long, length-append cs ys);
  same = λ k z. go k (ltb k m) refl z;
}
  where
    go : (k : ℕ) (c : Bool) → ltb k m ≡ c → pick c (s k) (t (k - m)) ≡ false → get_or (bs ++ xs) k 0 ≡ get_or (cs ++ ys) k 0
    go k true p z =
        let l = ltb-true k m p in
        get_or-append bs xs 0 k (omega (arith, a.long, e)) ∙ a.same k z ∙ sym (get_or-append cs ys 0 k (omega (arith, e)))
    go k false p z =
        let l = ltb-false k m p in
        let i : k ≡ length bs + (k - m) = omega (arith, a.long, e) in
        let j : k ≡ length cs + (k - m) = omega (arith, e) in
        ap (λ q. get_or (bs ++ xs) q 0) i ∙ get_or-append-add bs xs (k - m) 0 ∙ b.same (k - m) z ∙ sym (ap (λ q. get_or (cs ++ ys) q 0) j ∙ get_or-append-add cs ys (k - m) 0)

-- a list's head
head_near : (form : Form) (ts : Tags) (id : ℕ) → ListId ts id → Near (λ k. eqb k 0 && is_nil ts) (id ∷ bytes_in form.order 4 (many ts)) (list_id ts ∷ bytes_in form.order 4 (many ts))
head_near form nil id i = record { long = refl; same = go }
  where
    go : (k : ℕ) → (eqb k 0 && true) ≡ false → get_or (id ∷ bytes_in form.order 4 (many nil)) k 0 ≡ get_or (list_id nil ∷ bytes_in form.order 4 (many nil)) k 0
    go zero z = differ z
    go (suc k) z = refl
head_near form (more t ts) id i = near-is _ (ap (λ b. b ∷ bytes_in form.order 4 (many (more t ts))) i)

mutual
  unfolding PayloadIn payload_in id_in kind_of many

  pub payload-near : (form : Form) (t : Tag) (bs : List ℕ) → PayloadIn form t bs → Near (id_in form t) bs (payload_in form t)
  payload-near form (byte v) bs p = near-is _ p
  payload-near form (short v) bs p = near-is _ p
  payload-near form (int v) bs p = near-is _ p
  payload-near form (long v) bs p = near-is _ p
  payload-near form (float b) bs p = near-is _ p
  payload-near form (double b) bs p = near-is _ p
  payload-near form (byte_array vs) bs p = near-is _ p
  payload-near form (string s) bs p = near-is _ p
  payload-near form (list ts) bs p =
      rw p.4
      (near-append (λ k. eqb k 0 && is_nil ts) (element_id_in form ts) (p.0 ∷ bytes_in form.order 4 (many ts)) (list_id ts ∷ bytes_in form.order 4 (many ts)) p.1 (element_bytes_in form ts) 5
      (omega (arith, bytes-length form.order 4 (many ts))) (head_near form ts p.0 p.2) (elements-near form ts p.1 p.3))
  payload-near form (compound es) bs p = entries-near form es bs p
  payload-near form (int_array vs) bs p = near-is _ p
  payload-near form (long_array vs) bs p = near-is _ p

  elements-near : (form : Form) (ts : Tags) (bs : List ℕ) → ElementsIn form ts bs → Near (element_id_in form ts) bs (element_bytes_in form ts)
  elements-near form nil bs e = near-is _ e
  elements-near form (more t ts) bs e =
      rw e.4 (near-append (id_in form t) (element_id_in form ts) e.0 (payload_in form t) e.1 (element_bytes_in form ts)
      (length (payload_in form t)) refl (payload-near form t e.0 e.2) (elements-near form ts e.1 e.3))

  entries-near : (form : Form) (es : Entries) (bs : List ℕ) → EntryBytesIn form es bs → Near (entry_id_in form es) bs (entry_bytes_in form es)
  entries-near form ended bs e = near-is _ e
  entries-near form (entry n t es) bs e =
      rw e.4
      (near-append (λ k. false) (λ k. pick (ltb k (length (payload_in form t))) (id_in form t k) (entry_id_in form es (k - length (payload_in form t))))
      (kind_of t ∷ string_bytes_in form n) (kind_of t ∷ string_bytes_in form n) (e.0 ++ e.1) (payload_in form t ++ entry_bytes_in form es) (3 + length n)
      (omega (arith, string-length form n)) (near-is _ refl)
      (near-append (id_in form t) (entry_id_in form es) e.0 (payload_in form t) e.1 (entry_bytes_in form es) (length (payload_in form t)) refl
      (payload-near form t e.0 e.2) (entries-near form es e.1 e.3)))

-- Two layouts of a document.
pub near : (form : Form) → IsNear form
unfolding layout_in
near form d bs l =
    rw l.is
    (near-append (λ k. false) (entry_id_in form d.root) (10 ∷ string_bytes_in form d.name) (10 ∷ string_bytes_in form d.name) l.body (entry_bytes_in form d.root) (3 + length d.name)
    (omega (arith, string-length form d.name)) (near-is _ refl) (entries-near form d.root l.body l.entries))
