-- Whole documents: the root's id and name before its entries, both ways.
-- Assumes nothing.
use Prim.Native.Nat.{ℕ, ◌+◌, ◌≤◌}
use mathlib.Core.List.{List, [], ◌∷◌, ◌++◌}
use mathlib.Core.Path.{◌≡◌, refl, sym, ap, subst, ◌∙◌}
use native.Mathlib.Omega.{arith}
use lib.Dec.{leb, eqb}
use borrow.Author.Tests.{leb-true, eqb-true}
use lib.ListN.{length, length-append}
use Rattle.form.specs.Form.{Form}
use Rattle.form.specs.Answer.{Out, guard, ◌>>◌, ◌>>=◌, root_id, document_limit, depth_limit}
use Rattle.form.specs.Spans.{part}
use Rattle.form.specs.Tree.{compound, kind_of, tag_count, entries_count, depth, Document, LawfulIn, ValidBy}
use Rattle.form.specs.Layout.{string_bytes_in, PayloadIn, LayoutIn}
use Rattle.form.specs.Table.{size, value_by, entries_of, value_of}
use Rattle.form.specs.Reading.{One, Span, byte_at, string_at, document_at}
use Rattle.snbt_form.specs.Lexing.{among}
use Rattle.demands.specs.Reading.{Bytes, Sound}
use Rattle.demands.proofs.Sits.{Sits, sits-first, sits-rest, sits-join}
use Rattle.form.proofs.Answers.{Answers, Accepted, bind-answers, guard-answers, weaker}
use Rattle.demands.proofs.Answers.{Numbered, other}
use Rattle.demands.proofs.Tags.{tag_of, read_at}
use Rattle.demands.proofs.Fields.{StringLaw, string-length, byte-sound, Worded, string-sound, byte-read, string-content, string-read}
use Rattle.demands.proofs.Complete.{tag_read}
use Rattle.demands.proofs.Sound.{Tagged, TagSound, tag-sound}

-- a record of kind 10 stands for the compound of what is in it
root_is : (form : Form) (doc : List ℕ) (x : One) → x.head.kind ≡ 10 → tag_of form doc x ≡ compound (entries_of form doc x.inner)
unfolding value_by
root_is form doc x e = rw e refl

-- the root, without the limit on the input's length
abbrev pub root_at : Form → List ℕ → ℕ → Out One
root_at form doc room =
    byte_at doc 0
    >>= (λ k. guard (eqb k 10) root_id 0 >> (string_at form doc 1 >>= (λ s. read_at form doc room depth_limit 10 s.start s.size s.next 0)))

module _ (form : Form) (wf : StringLaw form) (doc : List ℕ) (room : ℕ) where
  -- ---- what is read is laid out

  module _ (bytes : Bytes doc) where
    root-sound : (x : One) (s : Span) → length doc ≤ document_limit → Sits doc 0 (10 ∷ []) → Worded form doc 1 s
        → TagSound form doc room depth_limit 10 s.start s.size s.next 0 x → Sound form doc room x
    unfolding PayloadIn ValidBy depth tag_count
    root-sound x s small first w t =
        let name = part doc s.start s.size in
        let es = entries_of form doc x.inner in
        let word : part doc x.head.name x.head.name_length ≡ name = rw (t.name-is, t.len_is) refl in
        let is : Tagged form depth_limit 10 t.bs (compound es) (size x.inner) = rw (root_is form doc x t.kind_is) at t.is in
        let here : x.next ≡ length ((10 ∷ string_bytes_in form name) ++ t.bs) = omega (arith, t.next, w.next, length-append (string_bytes_in form name) t.bs) in
        let start : s.next ≡ 0 + length {A = ℕ} (10 ∷ string_bytes_in form name) = omega (arith, w.next) in
        let sits : Sits doc 0 ((10 ∷ string_bytes_in form name) ++ t.bs) =
        sits-join (10 ∷ string_bytes_in form name) t.bs (sits-join (10 ∷ []) (string_bytes_in form name) first w.sits) (subst (λ q. Sits doc q t.bs) start t.sits) in
        record {
          laid = record { body = t.bs; entries = is.lays; is = rw (here, word) sits.is };
          lawful = record { name = rw word w.text; valid = is.valid; depth_le = is.deep };
          fits = omega (arith, t.fits, is.counts);
          records = omega (arith, is.counts);
          within = omega (arith, here, sits.to);
          small = small;
        }

    pub document-sound : Answers (Numbered form doc) (Sound form doc room) (document_at form doc room)
    unfolding document_at among
    document-sound =
        guard-answers (leb (length doc) document_limit) _ _ _ (λ e. other form refl refl)
        (λ e. bind-answers (byte_at doc 0) _ (byte-sound form doc 0)
        (λ k b. guard-answers (eqb k 10) _ _ _ (λ f. other form refl refl)
        (λ f. bind-answers (string_at form doc 1) _ (string-sound form doc wf bytes 1)
        (λ s w. weaker (read_at form doc room depth_limit 10 s.start s.size s.next 0)
        (tag-sound form doc wf bytes room depth_limit s.start s.size s.next 0 10 (omega arith) (omega arith) (omega (arith, w.next, w.sits.to)))
        (λ x t. root-sound x s (leb-true (length doc) document_limit e) (subst (λ q. Sits doc 0 (q ∷ [])) (eqb-true k 10 f) b.2) w t)))))

  -- ---- what is laid out is read

  module _ (d : Document) (bs : List ℕ) (sits : Sits doc 0 bs) (laid : LayoutIn form d bs) (lawful : LawfulIn form d) (fits : 1 + entries_count d.root ≤ room) where
    pub root-read : Answers Accepted (λ (x : One). (x.next ≡ length bs) × (value_of form doc x.head x.inner ≡ d)) (root_at form doc room)
    unfolding PayloadIn ValidBy depth tag_count kind_of
    root-read =
        let name = d.name in
        let body = laid.body in
        let hd : List ℕ = 10 ∷ string_bytes_in form name in
        let s₀ : Sits doc 0 (hd ++ body) = rw laid.is at sits in
        let s₁ = sits-first hd body s₀ in
        let s₂ = sits-rest (10 ∷ []) (string_bytes_in form name) s₁ in
        let start : 0 + length hd ≡ 3 + length name = omega (arith, string-length form name) in
        let s₃ : Sits doc (3 + length name) body = rw start at (sits-rest hd body s₀) in
        let whole : 3 + length name + length body ≡ length bs = omega (arith, ap length laid.is, length-append (string_bytes_in form name) body, string-length form name) in
        rw (byte-read form doc 10 (string_bytes_in form name) s₁, string-read form doc wf name lawful.name s₂)
        (weaker (read_at form doc room depth_limit 10 3 (length name) (3 + length name) 0)
        (tag_read form doc wf room (compound d.root) body depth_limit (3 + length name) 0 3 (length name) laid.entries lawful.valid lawful.depth_le s₃ (omega arith))
        (λ x t. let word : part doc x.head.name x.head.name_length ≡ name = rw (t.name-is, t.len_is) (string-content form doc name s₂).is in
        let same : compound (entries_of form doc x.inner) ≡ compound d.root = sym (root_is form doc x t.kind_is) ∙ t.is in
        let inner : entries_of form doc x.inner ≡ d.root = cc in
        (t.ends ∙ whole, λ i. record { name = word i; root = inner i })))
