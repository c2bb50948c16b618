-- Laws of a string token's content (rules 2 and 12), for the loops that measure and write it: what is done, then the scalar values left.
-- Assumes nothing.
use Prim.Native.Nat.{ℕ, zero, suc, ◌+◌, ◌-◌, ◌*◌, ◌/◌, ◌%◌, ◌≤◌, ◌<◌}
use mathlib.Core.Path.{◌≡◌, refl, sym, ap, ◌∙◌}
use mathlib.Core.Bool.{Bool, true, false, ◌&&◌}
use mathlib.Core.Logic.{⊎_elim}
use mathlib.Core.List.{List, [], ◌∷◌, ◌++◌, append_assoc, append-nil}
use native.Mathlib.Omega.{arith}
use borrow.Author.Tests.{lt-ltb, le-ltb, lt-leb, ne_eqb}
use lib.Dec.{eqb}
use lib.ListN.{length, get_or, drop, length-append}
use Rattle.form.specs.Answer.{Out, got, no, ◌>>=◌, pick}
use Rattle.form.specs.Spans.{part, over}
use Rattle.form.specs.Strings.{encode_by, scalar_bytes, unit_bytes, utf8_bytes}
use Rattle.form.specs.Decoding.{Sequence, is, stuck, unit_of, utf8_of}
use Rattle.form.specs.Writing.{length_of}
use Rattle.form.proofs.Picks.{lt-or, and-false}
use Rattle.form.proofs.Spans.{part_length}
use Rattle.form.proofs.Table.{over_none, over-length, over-over}
use Rattle.form.proofs.Scalars.{sb-low, sb-high}
use Rattle.form.proofs.Units.{ub-one, ub-nul, ub-two, ub-three}
use Rattle.form.proofs.Coding.{SoundBy}
use Rattle.form.proofs.Utf8.{utf8, sound}
use Rattle.form.proofs.Walks as W
use Rattle.snbt_form.specs.Lexing.{Front, Escape, stands, bad, cut, escape_of, escaped, character_of, front_of, scalars_by, content_of}
use Rattle.std.specs.Prelude.{Result, Ok, Err}
use Rattle.form.specs.Refusals.{number_of}
use Rattle.form.specs.declared.refusals.Refused.{Refused}
use Rattle.chars.specs.declared.Character.{Character}
use Rattle.snbt_contents.specs.Answers.{decoded_out}
use Rattle.plain.specs.Runs.{IsPlain, Plain, short_plain}
use Rattle.snbt_contents.specs.Puts.{Ready, PutIs, Verbatim}
use Rattle.snbt_quotes.proofs.Parts.{part_none, part-first, part-cons, part-drop}
use Rattle.snbt_quotes.proofs.Walks.{once}
use Rattle.snbt_quotes.proofs.Backslashes.{EscapeFits, escape-fits}
use Rattle.plain.proofs.Plains.{part-is}

-- ---- how long a scalar value is

unit-most : (u : ℕ) → length (unit_bytes u) ≤ 3
unit-most u = ⊎_elim
    (λ h. ⊎_elim (λ z. rw (ub-nul u (omega arith)) (omega arith)) (λ z. rw (ub-one u z h) (omega arith)) (lt-or u 1))
    (λ h. ⊎_elim (λ k. rw (ub-two u h k) (omega arith)) (λ k. rw (ub-three u k) (omega arith)) (lt-or u 2048))
    (lt-or u 128)

-- in modified UTF-8 at most twice as long as in UTF-8
twice : (c : ℕ) → length (scalar_bytes c) ≤ 2 * length (utf8_bytes c)
unfolding utf8_bytes
twice c =
    ⊎_elim
    (λ a. ⊎_elim
    (λ z. rw (sb-low c (omega arith), ub-nul c (omega arith)) (simp (lt-ltb c 128 a) (omega arith)))
    (λ z. rw (sb-low c (omega arith), ub-one c z a) (simp (lt-ltb c 128 a) (omega arith)))
    (lt-or c 1))
    (λ a. ⊎_elim
    (λ b. rw (sb-low c (omega arith), ub-two c a b) (simp (le-ltb c 128 a, lt-ltb c 2048 b) (omega arith)))
    (λ b. ⊎_elim
    (λ d. rw (sb-low c d, ub-three c b) (simp (le-ltb c 128 a, le-ltb c 2048 b, lt-ltb c 65536 d) (omega arith)))
    (λ d. let u = unit-most (55296 + (c - 65536) / 1024) in let v = unit-most (56320 + (c - 65536) % 1024) in
    rw (sb-high c d) (simp (length-append, le-ltb c 128 a, le-ltb c 2048 b, le-ltb c 65536 d) (omega (arith, u, v))))
    (lt-or c 65536))
    (lt-or c 2048))
    (lt-or c 128)

-- ---- what a content begins with

-- A front has at least one byte, none beyond the bytes there are, a scalar value, and in rule 2's form at most twice its bytes.
pub record FrontFits (l : List ℕ) (x : Front) : Type 0 where
  pub some : 0 < x.bytes
  pub reach : x.bytes ≤ length l
  pub scalar : x.scalar < 1114112
  pub size : length (scalar_bytes x.scalar) ≤ 2 * x.bytes

abbrev Fits : List ℕ → Out Front → Type 0
Fits l (got x) = FrontFits l x
Fits l (no n p) = Unit {0}

written-fits : (l : List ℕ) (s : Sequence) → utf8_of l ≡ s → SoundBy utf8_bytes l s → Fits l (character_of s)
written-fits l stuck e s = tt
written-fits l (is c n) e s =
    let f = W.fits utf8 l c n e in
    record { some = f.0; reach = f.1; scalar = s.0.1; size = omega (arith, twice c, s.1) }

escaped-fits : (b : ℕ) (l : List ℕ) (p : ℕ) (e : Escape) → EscapeFits l e → Fits (b ∷ l) (escaped e p)
escaped-fits b l p (stands c n) f = record {
  some = omega (arith, f.0);
  reach = omega (arith, f.1);
  scalar = omega (arith, f.2);
  size = rw (sb-low c f.2) (omega (arith, unit-most c, f.0));
}
escaped-fits b l p (bad n q) f = tt
escaped-fits b l p cut f = tt

front_fits : (quoted : Bool) (l : List ℕ) (p : ℕ) → Fits l (front_of quoted l p)
unfolding front_of
front_fits quoted [] p = tt
front_fits quoted (b ∷ l) p = go (quoted && eqb b 92)
  where
    go : (t : Bool) → Fits (b ∷ l) (pick t (escaped (escape_of l p) p) (character_of (utf8_of (b ∷ l))))
    go true = escaped-fits b l p (escape_of l p) (escape-fits l p)
    go false = written-fits (b ∷ l) (utf8_of (b ∷ l)) refl (sound (b ∷ l))

-- a plain byte is itself
utf8-plain : (b : ℕ) (l : List ℕ) → 0 < b → b < 128 → utf8_of (b ∷ l) ≡ is b 1
unfolding utf8_of unit_of
utf8-plain b l z h = simp (ne_eqb b 0 (omega arith), lt-leb 240 b (omega arith), lt-ltb b 128 h, lt-ltb b 55296 (omega arith))

front-plain : (quoted : Bool) (b : ℕ) (l : List ℕ) (p : ℕ) → IsPlain 92 92 b → front_of quoted (b ∷ l) p ≡ got (record { scalar = b; bytes = 1 })
unfolding front_of
front-plain quoted b l p k = rw (ne_eqb b 92 k.first, and-false quoted, utf8-plain b l k.some k.low) refl

plain-bytes : (b : ℕ) → 0 < b → b < 128 → scalar_bytes b ≡ b ∷ []
plain-bytes b z h = sb-low b (omega arith) ∙ ub-one b z h

-- ---- bytes done, and what follows

abbrev pub after : List ℕ → Out (List ℕ) → Out (List ℕ)
after done (got bs) = got (done ++ bs)
after done (no n p) = no n p

after_none : (x : Out (List ℕ)) → x ≡ after [] x
after_none (got bs) = refl
after_none (no n p) = refl

after-after : (xs ys : List ℕ) (x : Out (List ℕ)) → after xs (after ys x) ≡ after (xs ++ ys) x
after-after xs ys (got bs) = ap got (sym (append_assoc xs ys bs))
after-after xs ys (no n p) = refl

-- scalar values in rule 2's form
abbrev pub encoded : Out (List ℕ) → Out (List ℕ)
encoded x = x >>= (λ cs. got (encode_by scalar_bytes cs))

encoded-more : (c : ℕ) (x : Out (List ℕ)) → encoded (x >>= (λ cs. got (c ∷ cs))) ≡ after (scalar_bytes c) (encoded x)
encoded-more c (got cs) = refl
encoded-more c (no n p) = refl

module _ (t : List ℕ) (quoted : Bool) (start e : ℕ) where
  -- the content is `done`, then that of the bytes from i on
  pub record Sofar (done : List ℕ) (i : ℕ) : Type 0 where
    pub turns : ℕ
    pub enough : e ≤ i + turns
    pub is : content_of t quoted start e ≡ after done (encoded (scalars_by turns quoted (part t i (e - i)) i))

  pub sofar-start : Sofar [] start
  unfolding content_of
  sofar-start = record { turns = e - start; enough = omega arith; is = after_none _ }

  pub sofar-end : (done : List ℕ) (i : ℕ) → e ≤ i → Sofar done i → content_of t quoted start e ≡ got done
  unfolding scalars_by
  sofar-end done i h s = s.is ∙ go s.turns ∙ ap got (append-nil done)
    where
      go : (f : ℕ) → after done (encoded (scalars_by f quoted (part t i (e - i)) i)) ≡ got (done ++ [])
      go zero = rw (part_none t i e h) refl
      go (suc f) = rw (part_none t i e h) refl

  -- what a front says of places
  pub front-reach : (i c n : ℕ) → i < e → e ≤ length t → front_of quoted (part t i (e - i)) i ≡ got (record { scalar = c; bytes = n })
      → (0 < n) × (i + n ≤ e) × (c < 1114112) × (length (scalar_bytes c) ≤ 2 * n)
  front-reach i c n h k m =
      let f : FrontFits (part t i (e - i)) (record { scalar = c; bytes = n }) = rw m at (front_fits quoted (part t i (e - i)) i) in
      (f.some, omega (arith, f.reach, part_length t i (e - i) (omega arith)), f.scalar, f.size)

  module _ (done : List ℕ) (i : ℕ) (h : i < e) (k : e ≤ length t) (s : Sofar done i) where
    turn : (f : ℕ) (x : Out Front) → front_of quoted (part t i (e - i)) i ≡ x → scalars_by (suc f) quoted (part t i (e - i)) i
        ≡ (x >>= (λ y. scalars_by f quoted (drop y.bytes (part t i (e - i))) (i + y.bytes) >>= (λ cs. got (y.scalar ∷ cs))))
    unfolding scalars_by
    turn f x m = go (part t i (e - i)) (part-first t i e h k) m
      where
        go : (l : List ℕ) → l ≡ get_or t i 0 ∷ part t (i + 1) (e - (i + 1)) → front_of quoted l i ≡ x → scalars_by (suc f) quoted l i
            ≡ (x >>= (λ y. scalars_by f quoted (drop y.bytes l) (i + y.bytes) >>= (λ cs. got (y.scalar ∷ cs))))
        go [] m n = let z : ◌≡◌ {A = ℕ} 0 1 = cc in absurd (omega arith)
        go (b ∷ l) m n = rw (← n) refl

    pub sofar-refused : (n p : ℕ) → front_of quoted (part t i (e - i)) i ≡ no n p → content_of t quoted start e ≡ no n p
    sofar-refused n p m =
        once s.turns (omega (arith, s.enough)) (λ f z. s.is ∙ rw (z, turn f (no n p) m) refl)

    pub sofar-front : (c n : ℕ) → front_of quoted (part t i (e - i)) i ≡ got (record { scalar = c; bytes = n }) → Sofar (done ++ scalar_bytes c) (i + n)
    sofar-front c n m =
        let some = (front-reach i c n h k m).0 in
        once s.turns (omega (arith, s.enough)) (λ f z. record {
          turns = f;
          enough = omega (arith, some, s.enough, z);
          is = s.is ∙ rw (z, turn f (got (record { scalar = c; bytes = n })) m, part-drop t i n e) (behind f);
        })
      where
        behind : (f : ℕ) → let rest = scalars_by f quoted (part t (i + n) (e - (i + n))) (i + n) in
            after done (encoded (rest >>= (λ cs. got (c ∷ cs)))) ≡ after (done ++ scalar_bytes c) (encoded rest)
        behind f =
            let rest = scalars_by f quoted (part t (i + n) (e - (i + n))) (i + n) in
            ap (after done) (encoded-more c rest) ∙ after-after done (scalar_bytes c) (encoded rest)

  -- a run of n plain bytes is their own content
  pub sofar-run : (n i : ℕ) (done : List ℕ) → i + n ≤ e → e ≤ length t → Plain 92 92 t i (i + n) → Sofar done i → Sofar (done ++ part t i n) (i + n)
  sofar-run zero i done h k p s = let z : i + 0 ≡ i = omega arith in rw (z, append-nil done) s
  sofar-run (suc n) i done h k p s =
      let b = p.each i (omega arith) (omega arith) in
      let z : i + suc n ≡ i + 1 + n = omega arith in
      let m = ap (λ (l : List ℕ). front_of quoted l i) (part-first t i e (omega arith) k) ∙ front-plain quoted (get_or t i 0) _ i b in
      let s' = rw (plain-bytes (get_or t i 0) b.some b.low) at (sofar-front done i (omega arith) k s (get_or t i 0) 1 m) in
      let r = sofar-run n (i + 1) (done ++ (get_or t i 0 ∷ [])) (omega arith) k (record { each = λ j a c. p.each j (omega arith) (omega arith) }) s' in
      rw (z, part-cons t i n (omega arith), ← append_assoc done (get_or t i 0 ∷ []) (part t (i + 1) n)) r

  pub sofar-plain : (i j : ℕ) (done : List ℕ) → i ≤ j → j ≤ e → e ≤ length t → Plain 92 92 t i j → Sofar done i → Sofar (done ++ part t i (j - i)) j
  sofar-plain i j done h l k p s =
      let z : i + (j - i) ≡ j = omega arith in
      rw z at (sofar-run (j - i) i done (omega arith) k (rw z p) s)

  -- what is done is no longer than the content
  pub sofar-room : (done bytes : List ℕ) (i : ℕ) → Sofar done i → content_of t quoted start e ≡ got bytes → length done ≤ length bytes
  sofar-room done bytes i s m = go (encoded (scalars_by s.turns quoted (part t i (e - i)) i)) (sym m ∙ s.is)
    where
      go : (x : Out (List ℕ)) → got bytes ≡ after done x → length done ≤ length bytes
      go (got bs) q = let z : bytes ≡ done ++ bs = cc in rw (z, length-append done bs) (omega arith)
      go (no n p) q = let z : ◌≡◌ {A = ℕ} 0 1 = cc in absurd (omega arith)

-- a short span that is plain is its own content
pub verbatim : (t : List ℕ) (start e : ℕ) → start ≤ e → e ≤ length t → short_plain 92 (part t start (e - start)) ≡ true → Verbatim t start e
verbatim t start e h k s =
    let w = part-is 92 t start e h k s in
    record {
      short = omega (arith, w.0);
      is = λ quoted.
          let so = sofar-plain t quoted start e start e [] h (omega arith) k w.1 (sofar-start t quoted start e) in
          sofar-end t quoted start e (part t start (e - start)) e (omega arith) so;
    }

-- what a call answers of a content's front
abbrev pub Told : Type 0
Told = Result Character Refused

-- ---- the loop that measures

module _ (t : List ℕ) (quoted : Bool) (start e : ℕ) where
  -- n bytes of the content are counted, and the bytes from i on are left
  pub record Counted (i n : ℕ) : Type 0 where
    pub done : List ℕ
    pub so : Sofar t quoted start e done i
    pub count : n ≡ length done

  pub counted_start : Counted start 0
  counted_start = record { done = []; so = sofar-start t quoted start e; count = refl }

  pub counted-plain : (i j n : ℕ) → i ≤ j → j ≤ e → e ≤ length t → Plain 92 92 t i j → Counted i n → Counted j (n + (j - i))
  counted-plain i j n h l k p c = record {
    done = c.done ++ part t i (j - i);
    so = sofar-plain t quoted start e i j c.done h l k p c.so;
    count = rw (length-append c.done (part t i (j - i))) (omega (arith, c.count, part_length t i (j - i) (omega arith)));
  }

  pub counted-end : (i n : ℕ) → e ≤ i → Counted i n → got n ≡ length_of (content_of t quoted start e)
  counted-end i n h c = ap got c.count ∙ sym (ap length_of (sofar-end t quoted start e c.done i h c.so))

  -- A front of m bytes at i takes its own length more, which is at most twice m.
  pub record Longer (i n c m : ℕ) : Type 0 where
    pub some : 0 < m
    pub reach : i + m ≤ e
    pub size : length (scalar_bytes c) ≤ 2 * m
    pub counted : (z : ℕ) → z ≡ length (scalar_bytes c) → Counted (i + m) (n + z)

  -- what the front at i makes of it
  abbrev pub Measured : ℕ → ℕ → Told → Type 0
  Measured i n (Ok x) = Longer i n x.value x.size
  Measured i n (Err r) = no (number_of r.refusal) r.place ≡ length_of (content_of t quoted start e)

  -- by what a call answered of it
  pub counted-told : (i n : ℕ) → i < e → e ≤ length t → Counted i n → (r : Told) → decoded_out r ≡ front_of quoted (part t i (e - i)) i → Measured i n r
  counted-told i n h k g (Ok x) p =
      let c = x.value in
      let m = x.size in
      let f = front-reach t quoted start e i c m h k (sym p) in
      record {
        some = f.0;
        reach = f.1;
        size = f.3;
        counted = λ z l. record {
          done = g.done ++ scalar_bytes c;
          so = sofar-front t quoted start e g.done i h k g.so c m (sym p);
          count = rw (length-append g.done (scalar_bytes c)) (omega (arith, g.count, l));
        };
      }
  counted-told i n h k g (Err r) p = sym (ap length_of (sofar-refused t quoted start e g.done i h k g.so (number_of r.refusal) r.place (sym p)))

-- ---- the loop that writes

module _ (t : List ℕ) (quoted : Bool) (start e : ℕ) (o₀ : List ℕ) (at : ℕ) where
  -- the bytes from i on are left; what is done stands in the output from `at` up to `to`
  pub record Putting (o : List ℕ) (to i : ℕ) : Type 0 where
    pub done : List ℕ
    pub so : Sofar t quoted start e done i
    pub place : to ≡ at + length done
    pub wrote : o ≡ over o₀ at done

  pub putting-start : Putting o₀ at start
  putting-start = record { done = []; so = sofar-start t quoted start e; place = omega arith; wrote = sym (over_none o₀ at) }

module _ (t : List ℕ) (quoted : Bool) (start e : ℕ) (o₀ : List ℕ) (at : ℕ) (ready : Ready t quoted start e o₀ at) where
  -- there is room for what is done
  roomy : (done : List ℕ) (i : ℕ) → Sofar t quoted start e done i → at + length done ≤ length o₀
  roomy done i s = omega (arith, sofar-room t quoted start e done ready.bytes i s ready.is, ready.fits)

  pub putting-length : (o : List ℕ) (to i : ℕ) → Putting t quoted start e o₀ at o to i → length o ≡ length o₀
  putting-length o to i g = ap length g.wrote ∙ over-length o₀ at g.done (roomy g.done i g.so)

  pub putting-room : (o : List ℕ) (to i : ℕ) → Putting t quoted start e o₀ at o to i → to ≤ length o
  putting-room o to i g = omega (arith, roomy g.done i g.so, putting-length o to i g, g.place)

  -- what is put behind it
  behind : (o o' ws : List ℕ) (to i : ℕ) → (g : Putting t quoted start e o₀ at o to i) → o' ≡ over o to ws → o' ≡ over o₀ at (g.done ++ ws)
  behind o o' ws to i g w =
      w ∙ (λ j. over (g.wrote j) (g.place j) ws) ∙ over-over o₀ at g.done (roomy g.done i g.so) ws

  module _ (o : List ℕ) (to i j : ℕ) (h : i ≤ j) (l : j ≤ e) (p : Plain 92 92 t i j) (g : Putting t quoted start e o₀ at o to i) where
    next : Sofar t quoted start e (g.done ++ part t i (j - i)) j
    next = sofar-plain t quoted start e i j g.done h l ready.within.1 p g.so

    size : length (g.done ++ part t i (j - i)) ≡ length g.done + (j - i)
    size = length-append g.done (part t i (j - i)) ∙ ap (λ (n : ℕ). length g.done + n) (part_length t i (j - i) (omega (arith, ready.within.1)))

    pub plain-room : to + (j - i) ≤ length o
    plain-room = omega (arith, roomy _ j next, size, putting-length o to i g, g.place)

    pub putting-plain : (o' : List ℕ) → o' ≡ over o to (part t i (j - i)) → Putting t quoted start e o₀ at o' (to + (j - i)) j
    putting-plain o' w = record {
      done = g.done ++ part t i (j - i);
      so = next;
      place = omega (arith, size, g.place);
      wrote = behind o o' (part t i (j - i)) to i g w;
    }

  -- A front of m bytes at i has room behind what is written, and is put there.
  pub record Room (o : List ℕ) (to i c m : ℕ) : Type 0 where
    pub some : 0 < m
    pub reach : i + m ≤ e
    pub scalar : c < 1114112
    pub room : to + length (scalar_bytes c) ≤ length o
    pub put : (n : ℕ) (o' : List ℕ) → n ≡ to + length (scalar_bytes c) → o' ≡ over o to (scalar_bytes c) → Putting t quoted start e o₀ at o' n (i + m)

  -- what the front at i makes of it: where it is refused, nothing is promised of the output
  abbrev pub Ahead : List ℕ → ℕ → ℕ → Told → Type 0
  Ahead o to i (Ok x) = Room o to i x.value x.size
  Ahead o to i (Err r) = (n : ℕ) (o' : List ℕ) → PutIs (content_of t quoted start e) o₀ at n o'

  -- by what a call answered of it
  pub putting-told : (o : List ℕ) (to i : ℕ) → i < e → Putting t quoted start e o₀ at o to i → (r : Told) → decoded_out r ≡ front_of quoted (part t i (e - i)) i
      → Ahead o to i r
  putting-told o to i h g (Ok x) p =
      let c = x.value in
      let m = x.size in
      let f = front-reach t quoted start e i c m h ready.within.1 (sym p) in
      let so = sofar-front t quoted start e g.done i h ready.within.1 g.so c m (sym p) in
      let size = length-append g.done (scalar_bytes c) in
      record {
        some = f.0;
        reach = f.1;
        scalar = f.2;
        room = omega (arith, roomy _ (i + m) so, size, putting-length o to i g, g.place);
        put = λ n o' q w. record {
          done = g.done ++ scalar_bytes c;
          so = so;
          place = omega (arith, q, size, g.place);
          wrote = behind o o' (scalar_bytes c) to i g w;
        };
      }
  putting-told o to i h g (Err r) p =
      let z = sofar-refused t quoted start e g.done i h ready.within.1 g.so (number_of r.refusal) r.place (sym p) in
      λ n o'. rw z tt

  pub putting-end : (o : List ℕ) (to i : ℕ) → e ≤ i → Putting t quoted start e o₀ at o to i → PutIs (content_of t quoted start e) o₀ at to o
  putting-end o to i h g = rw (sofar-end t quoted start e g.done i h g.so) (g.place, g.wrote)
