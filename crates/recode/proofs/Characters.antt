-- Laws of strings that are written by another rule, character by character: how far a walk has come, one character
-- or a run of plain bytes more, and its end.
-- Assumes nothing.
use Prim.Native.Nat.{ℕ, zero, suc, ◌+◌, ◌-◌, ◌/◌, ◌%◌, ◌≤◌, ◌<◌}
use mathlib.Core.Path.{sym, ◌≡◌, refl, ap, ◌∙◌}
use mathlib.Core.Bool.{false}
use mathlib.Core.List.{List, [], ◌∷◌, ◌++◌, append-nil, append_assoc}
use native.Mathlib.Numerals.{sub-one}
use native.Mathlib.Omega.{arith}
use lib.ListN.{length, drop, get_or, length-append, drop_of_length-le}
use lib.Seq.{drop-drop}
use Rattle.form.specs.Form.{Rule, modified, utf8, Way, form_no, way_no, same_rule}
use Rattle.form.specs.Strings.{enc_of, encode_by}
use Rattle.form.specs.Decoding.{Sequence, is, stuck, one_of}
use Rattle.form.specs.Spans.{part, over}
use Rattle.form.specs.Turned.{chars_by, chars_in, recoded}
use Rattle.form.proofs.Spans.{part-cons}
use Rattle.form.proofs.Units.{ub-one}
use Rattle.form.proofs.Scalars.{sb-low}
use Rattle.form.proofs.Coding.{SoundBy}
use Rattle.form.proofs.Walks as W
use Rattle.chars.proofs.Puts.{u8-one}
use Rattle.plain.specs.Runs.{IsPlain, Plain}
use Rattle.mutf8.proofs.Codings.{coding_of, sound}
use Rattle.mutf8.proofs.Alike.{plain-one}
use Rattle.recode.specs.Steps.{Puts}

-- ---- one character

-- A plain byte is written as itself by every rule.
plain-written : (r : Rule) (b : ℕ) → IsPlain 0 0 b → enc_of r b ≡ b ∷ []
plain-written modified b p = sb-low b (omega (arith, p.low)) ∙ ub-one b p.some p.low
plain-written utf8 b p = u8-one b p.low

-- One that was read is a scalar value.
scalar-go : (r : Rule) (l : List ℕ) (x : Sequence) (c n : ℕ) → SoundBy (enc_of r) l x → x ≡ is c n → c < 1114112
scalar-go r l stuck c n s e = let z : ◌≡◌ {A = ℕ} 0 1 = cc in absurd (omega arith)
scalar-go r l (is d m) c n s e = let p : d ≡ c = cc in rw p at s.0.1

pub scalar : (r : Rule) (l : List ℕ) (c n : ℕ) → one_of r l ≡ is c n → c < 1114112
scalar r l c n e = scalar-go r l (one_of r l) c n (sound r l) e

-- Behind the last byte there is none.
none-go : (r : Rule) (x : Sequence) → one_of r [] ≡ x → x ≡ stuck
none-go r stuck e = refl
none-go r (is c n) e = absurd (omega (arith, W.fits (coding_of r) [] c n e))

none : (r : Rule) → one_of r [] ≡ stuck
none r = none-go r (one_of r []) refl

-- What a call read at a place, by the rule of the form that the document has.
pub front : (way form i : ℕ) (s : List ℕ) {v : Sequence} → form ≡ way % 256 → v ≡ one_of (form_no form).strings (drop i s)
    → one_of (way_no way).from.strings (drop i s) ≡ v
front way form i s f e = sym (e ∙ ap (λ n. one_of (form_no n).strings (drop i s)) f)

-- What a call wrote, by the rule of the form that the document is written in.
pub wrote : (way form c at r : ℕ) (o o₁ : List ℕ) → form ≡ way / 256
    → (o₁ ≡ over o at (enc_of (form_no form).strings c)) × (r ≡ at + length (enc_of (form_no form).strings c)) → Puts (enc_of (way_no way).to.strings c) o at o₁ r
wrote way form c at r o o₁ f p = rw (← f) (record { is = p.0; next = p.1 })

-- ---- a walk over the characters

chars-stuck : (one : List ℕ → Sequence) (f : ℕ) (l : List ℕ) → one l ≡ stuck → chars_by one f l ≡ []
unfolding chars_by
chars-stuck one zero l e = refl
chars-stuck one (suc f) l e = rw e refl

chars-more : (one : List ℕ → Sequence) (f c n : ℕ) (l : List ℕ) → one l ≡ is c n → chars_by one (suc f) l ≡ c ∷ chars_by one f (drop n l)
unfolding chars_by
chars-more one f c n l e = rw e refl

module _ (way : Way) (s : List ℕ) where
  -- what is to be written of l, in so many turns
  abbrev ahead : ℕ → List ℕ → List ℕ
  ahead f l = encode_by (enc_of way.to.strings) (chars_by (one_of way.from.strings) f l)

  -- up to i the string is written as bs, and from there on some number of turns that suffices writes the rest
  pub record Come (i : ℕ) (bs : List ℕ) : Type 0 where
    pub turns : ℕ
    pub enough : length s ≤ i + turns
    pub rest : recoded way s ≡ bs ++ ahead turns (drop i s)

  pub come-start : same_rule way.from.strings way.to.strings ≡ false → Come 0 []
  unfolding recoded chars_in
  come-start e = record { turns = length s; enough = omega arith; rest = rw e refl }

  -- one character more
  pub come-more : (i c n : ℕ) (bs : List ℕ) → i < length s → one_of way.from.strings (drop i s) ≡ is c n → Come i bs → Come (i + n) (bs ++ enc_of way.to.strings c)
  come-more i c n bs h e g = go g.turns g.enough g.rest
    where
      go : (f : ℕ) → length s ≤ i + f → recoded way s ≡ bs ++ ahead f (drop i s) → Come (i + n) (bs ++ enc_of way.to.strings c)
      go zero k r = absurd (omega arith)
      go (suc f) k r = record {
        turns = f;
        enough = omega (arith, (W.fits (coding_of way.from.strings) (drop i s) c n e).0);
        rest = r ∙ rw (chars-more _ f c n (drop i s) e, drop-drop n i s, append_assoc bs (enc_of way.to.strings c) (ahead f (drop (i + n) s))) refl;
      }

  -- one plain byte more, which is written as itself
  come-plain : (i : ℕ) (bs : List ℕ) → i < length s → IsPlain 0 0 (get_or s i 0) → Come i bs → Come (i + 1) (bs ++ (get_or s i 0 ∷ []))
  come-plain i bs h p g = rw (plain-written way.to.strings _ p) at (come-more i (get_or s i 0) 1 bs h (plain-one way.from.strings s i h p) g)

  -- so many plain bytes more, as they stand
  come-few : (n i : ℕ) (bs : List ℕ) → i + n ≤ length s → Plain 0 0 s i (i + n) → Come i bs → Come (i + n) (bs ++ part s i n)
  come-few zero i bs h p g = let e : i + 0 ≡ i = omega arith in rw (append-nil bs, e) g
  come-few (suc n) i bs h p g =
      let b = get_or s i 0 in
      let e : i + suc n ≡ i + 1 + n = omega arith in
      let cut : part s i (suc n) ≡ b ∷ part s (i + 1) n = part-cons s i (suc n) (omega arith) (omega arith) ∙ rw (sub-one (suc n)) refl in
      let one = come-plain i bs (omega arith) (p.each i (omega arith) (omega arith)) g in
      let all = come-few n (i + 1) (bs ++ (b ∷ [])) (omega arith) (record { each = λ k l m. p.each k (omega arith) (omega arith) }) one in
      rw (cut, e) (rw (append_assoc bs (b ∷ []) (part s (i + 1) n)) at all)

  -- a run of plain bytes more
  pub come-run : (i j : ℕ) (bs : List ℕ) → i ≤ j → j ≤ length s → Plain 0 0 s i j → Come i bs → Come j (bs ++ part s i (j - i))
  come-run i j bs h l p g = let e : i + (j - i) ≡ j = omega arith in rw e at (come-few (j - i) i bs (omega arith) (rw e p) g)

  -- it is no longer than all of it
  pub come-length : (i : ℕ) (bs : List ℕ) → Come i bs → length bs ≤ length (recoded way s)
  come-length i bs g = omega (arith, simp length-append at (ap length g.rest))

  -- where none can be read, and at the end
  pub come-stuck : (i : ℕ) (bs : List ℕ) → one_of way.from.strings (drop i s) ≡ stuck → Come i bs → recoded way s ≡ bs
  come-stuck i bs e g = g.rest ∙ ap (λ (cs : List ℕ). bs ++ encode_by (enc_of way.to.strings) cs) (chars-stuck _ g.turns (drop i s) e) ∙ append-nil bs

  pub come-end : (i : ℕ) (bs : List ℕ) → length s ≤ i → Come i bs → recoded way s ≡ bs
  come-end i bs h g = come-stuck i bs (rw (drop_of_length-le s {i = i} h) (none way.from.strings)) g

-- A character that was read takes a byte at least and no more than there are, and with it the walk has come further.
pub read : (way i : ℕ) (s bs : List ℕ) (v n : ℕ) → i < length s → one_of (way_no way).from.strings (drop i s) ≡ is v n → Come (way_no way) s i bs
    → (0 < n) × (i + n ≤ length s) × Come (way_no way) s (i + n) (bs ++ enc_of (way_no way).to.strings v)
read way i s bs v n h e w =
    let r = W.reach (coding_of (way_no way).from.strings) s i v n h e in
    (r.0, r.1, come-more (way_no way) s i v n bs h e w)
