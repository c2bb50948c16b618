-- Fields that are read are laid out, and fields that are laid out are read: each law both ways.
-- Assumes nothing.
use Prim.Native.Nat.{ℕ, ◌+◌, ◌^◌, ◌≤◌, ◌<◌}
use mathlib.Core.List.{List, [], ◌∷◌}
use mathlib.Core.Bool.{true}
use mathlib.Core.Path.{◌≡◌, refl, ap, ◌∙◌}
use mathlib.Core.Logic.{◌↔◌}
use native.Mathlib.Omega.{arith}
use lib.Dec.{ltb, leb}
use borrow.Author.Tests.{ltb-true, leb-true}
use lib.ListN.{length, get_or, length-append}
use Rattle.form.specs.Form.{Form}
use Rattle.form.specs.Answer.{got, bad_string}
use Rattle.form.specs.Spans.{part}
use Rattle.form.specs.Numbers.{number_in, bytes_in, values_in}
use Rattle.form.specs.Strings.{WellFormedIn}
use Rattle.form.specs.Decoding.{bad, verdict_in, is_good, well_formed_in}
use Rattle.form.specs.Tree.{TextIn}
use Rattle.form.specs.Layout.{string_bytes_in}
use Rattle.form.specs.Reading.{Span, byte_at, bytes_at, number_at, string_at, count_at}
use Rattle.form.proofs.Orders.{bytes-length, number-bytes, value-bytes}
use Rattle.form.proofs.Spans.{part_length}
use Rattle.form.proofs.Strings.{string-judged, is_good-iff}
use Rattle.form.proofs.Fields.{byte-got, number-got, string-got}
use Rattle.snbt_form.specs.Lexing.{among}
use Rattle.demands.specs.Reading.{Bytes}
use Rattle.demands.proofs.Sits.{Sits, sits-first, sits-rest, sits-join, sits-part, sits-head, sits-byte}
use Rattle.form.proofs.Answers.{Answers, bind-answers, guard-answers, readable-answers, got-answers}
use Rattle.demands.proofs.Answers.{Numbered, other}

-- the law of strings that both directions rest on: the computed test is the declared one
abbrev pub StringLaw : Form → Type 0
StringLaw form = (l : List ℕ) → (well_formed_in form.strings l ≡ true) ↔ WellFormedIn form.strings l

pub string-length : (form : Form) (xs : List ℕ) → length (string_bytes_in form xs) ≡ 2 + length xs
string-length form xs = omega (arith, length-append (bytes_in form.order 2 (length xs)) xs, bytes-length form.order 2 (length xs))

module _ (form : Form) (doc : List ℕ) where
  -- ---- what is laid out is read

  pub byte-read : {at : ℕ} (b : ℕ) (xs : List ℕ) → Sits doc at (b ∷ xs) → byte_at doc at ≡ got b
  byte-read {at} b xs s = let h = sits-head b xs s in byte-got doc at h.0 ∙ ap got h.1

  pub number_read : {at : ℕ} (n v : ℕ) → v < values_in n → Sits doc at (bytes_in form.order n v) → number_at form doc n at ≡ got v
  number_read {at} n v h s =
      let t = s.to in
      let e = s.is in
      number-got form doc n at (omega (arith, bytes-length form.order n v)) ∙ ap got (ap (number_in form.order) (rw (bytes-length form.order n v) at e) ∙ number-bytes form.order n v h)

  pub string-content : {at : ℕ} (xs : List ℕ) → Sits doc at (string_bytes_in form xs) → Sits doc (at + 2) xs
  string-content xs s = rw (bytes-length form.order 2 (length xs)) at (sits-rest (bytes_in form.order 2 (length xs)) xs s)

  pub string-read : StringLaw form → {at : ℕ} (xs : List ℕ) → TextIn form xs → Sits doc at (string_bytes_in form xs)
      → string_at form doc at ≡ got (record { start = at + 2; size = length xs; count = 0; next = at + 2 + length xs })
  string-read wf {at} xs t s =
      let r = string-content xs s in
      string-got form doc at (length xs) (number_read 2 (length xs) (omega (arith, t.1)) (sits-first (bytes_in form.order 2 (length xs)) xs s)) r.to
      ((is_good-iff _).0 (rw r.is ((wf xs).1 t.0)))

  -- ---- what is read is laid out

  pub byte-sound : (at : ℕ) → Answers (Numbered form doc) (λ b. (at < length doc) × (get_or doc at 0 ≡ b) × Sits doc at (b ∷ [])) (byte_at doc at)
  unfolding byte_at among
  byte-sound at =
      guard-answers (ltb at (length doc)) _ _ _ (λ e. other form refl refl)
      (λ e. let l = ltb-true at (length doc) e in got-answers (l, refl, sits-byte doc at l))

  pub bytes-sound : (n count at : ℕ)
      → Answers (Numbered form doc) (λ s. (at + n ≤ length doc) × (s ≡ record { start = at; size = n; count = count; next = at + n })) (bytes_at doc n count at)
  unfolding bytes_at among
  bytes-sound n count at =
      guard-answers (leb (at + n) (length doc)) _ _ _ (λ e. other form refl refl) (λ e. got-answers (leb-true (at + n) (length doc) e, refl))

  pub number-sound : Bytes doc → (n at : ℕ) → Answers (Numbered form doc) (λ v. (v < values_in n) × Sits doc at (bytes_in form.order n v)) (number_at form doc n at)
  unfolding number_at among
  number-sound bytes n at =
      guard-answers (leb (at + n) (length doc)) _ _ _ (λ e. other form refl refl)
      (λ e. let l = leb-true (at + n) (length doc) e in
      let v = value-bytes form.order doc bytes at n l in
      got-answers (v.1, rw v.0 (sits-part doc at n l)))

  pub count-sound : Bytes doc → (at : ℕ) → Answers (Numbered form doc) (λ n. (n < 2 ^ 31) × Sits doc at (bytes_in form.order 4 n)) (count_at form doc at)
  unfolding count_at among
  count-sound bytes at =
      bind-answers (number_at form doc 4 at) _ (number-sound bytes 4 at)
      (λ n v. guard-answers (ltb n (2 ^ 31)) _ _ _ (λ e. other form refl refl) (λ e. got-answers (ltb-true n (2 ^ 31) e, v.1)))

  -- a string that was read: its content is text, and lies behind its length
  pub record Worded (at : ℕ) (s : Span) : Type 0 where
    pub start : s.start ≡ at + 2
    pub sits : Sits doc at (string_bytes_in form (part doc s.start s.size))
    pub next : s.next ≡ at + length (string_bytes_in form (part doc s.start s.size))
    pub text : TextIn form (part doc s.start s.size)

  pub string-sound : StringLaw form → Bytes doc → (at : ℕ) → Answers (Numbered form doc) (Worded at) (string_at form doc at)
  unfolding string_at among
  string-sound wf bytes at =
      bind-answers (number_at form doc 2 at) _ (number-sound bytes 2 at)
      (λ n v. bind-answers (bytes_at doc n 0 (at + 2)) _ (bytes-sound n 0 (at + 2))
      (λ s b. readable-answers (verdict_in form.strings (part doc (at + 2) n)) (at + 2) _ (λ k e. broken n k v.0 v.1 b.0 e)
      (λ e. got-answers (rw b.1 (worded n v.0 v.1 b.0 ((wf (part doc (at + 2) n)).0 (ap is_good e)))))))
    where
      broken : (n k : ℕ) → n < values_in 2 → Sits doc at (bytes_in form.order 2 n) → at + 2 + n ≤ length doc → verdict_in form.strings (part doc (at + 2) n) ≡ bad k
          → Numbered form doc bad_string (at + 2 + k)
      broken n k h p l e = record {
        number = refl;
        character = λ _. record {
          at = at;
          size = n;
          offset = k;
          sized = number_read 2 n h p;
          whole = l;
          first = (string-judged form.strings (part doc (at + 2) n)).bad_is k e;
          place = refl;
        };
      }

      worded : (n : ℕ) → n < values_in 2 → Sits doc at (bytes_in form.order 2 n) → at + 2 + n ≤ length doc → WellFormedIn form.strings (part doc (at + 2) n)
          → Worded at (record { start = at + 2; size = n; count = 0; next = at + 2 + n })
      worded n h p l w =
          let xs = part doc (at + 2) n in
          let k : length xs ≡ n = part_length doc (at + 2) n l in
          record {
            start = refl;
            sits = sits-join (bytes_in form.order 2 (length xs)) xs (rw k p) (rw (bytes-length form.order 2 (length xs)) (sits-part doc (at + 2) n l));
            next = omega (arith, k, string-length form xs);
            text = (w, omega (arith, k));
          }
