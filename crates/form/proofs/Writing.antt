-- Laws of writing (rule 8): each way through the judgement of a string, and which record a refusal means.
-- Assumes nothing.
use Prim.Native.Nat.{ℕ, ◌+◌, ◌-◌, ◌≤◌, ◌<◌}
use mathlib.Core.Bool.{Bool, true, false, not, ◌||◌}
use mathlib.Core.Logic.{◌⊎◌, inl, inr}
use mathlib.Core.List.{List}
use mathlib.Core.Path.{◌≡◌, refl, sym, subst}
use native.Mathlib.Omega.{arith}
use borrow.Author.Tests.{eq-eqb, ne_eqb, le-leb, lt-leb, eqb-true}
use lib.Dec.{leb, ltb, eqb}
use lib.ListN.{length}
use Rattle.form.specs.Form.{Way}
use Rattle.form.specs.Answer.{got, no, ◌>>◌, guard, long_string, bad_string, name_twice, too_deep, mixed_list, string_limit}
use Rattle.form.specs.Spans.{part}
use Rattle.form.specs.Decoding.{well_formed_in}
use Rattle.form.specs.Turned.{recoded}
use Rattle.form.specs.Table.{Head, Forest, none, node, size, ◌⊕◌, head_of, holds}
use Rattle.form.specs.Records.{Sits}
use Rattle.form.specs.Reading.{has_name}
use Rattle.form.specs.Writing.{string_fine, payload_fine, judged}
use Rattle.form.proofs.Answer.{got-no}
use Rattle.form.proofs.Answers.{Answers, Any, guard-answers, then-answers, refused-also, got-answers, no-answers}
use Rattle.form.proofs.Tables.{head-of, sits-first, sits-inner, sits-later}

-- ---- strings

module _ (way : Way) (doc : List ℕ) (start size n : ℕ) where
  -- A string whose length does not fit a u16 (12).
  pub string-long : string_limit < size → string_fine way doc start size n ≡ no long_string n
  unfolding string_fine
  string-long h = rw (lt-leb size string_limit h) refl

  -- A string that is not well formed (4).
  pub string-bad : size ≤ string_limit → well_formed_in way.from.strings (part doc start size) ≡ false → string_fine way doc start size n ≡ no bad_string n
  unfolding string_fine
  string-bad h e = rw (le-leb size string_limit h, e) refl

  module _ (h : size ≤ string_limit) (e : well_formed_in way.from.strings (part doc start size) ≡ true) where
    -- A string whose length does not fit a u16 as it is written (12).
    pub string-grown : string_limit < length (recoded way (part doc start size)) → string_fine way doc start size n ≡ no long_string n
    unfolding string_fine
    string-grown g = rw (le-leb size string_limit h, e, lt-leb (length (recoded way (part doc start size))) string_limit g) refl

    -- A string that passes.
    pub string-good : length (recoded way (part doc start size)) ≤ string_limit → string_fine way doc start size n ≡ got tt
    unfolding string_fine
    string-good g = rw (le-leb size string_limit h, e, le-leb (length (recoded way (part doc start size))) string_limit g) refl

module _ (way : Way) (doc : List ℕ) (h : Head) (n : ℕ) where
  -- The payload of a string's record is judged.
  pub payload-string : h.kind ≡ 8 → payload_fine way doc h n ≡ string_fine way doc h.start h.size n
  unfolding payload_fine
  payload-string e = rw (payload_fine, eq-eqb h.kind 8 e) refl

  -- No other is.
  pub payload-other : (h.kind ≡ 8 → ⊥) → payload_fine way doc h n ≡ got tt
  unfolding payload_fine
  payload-other e = rw (payload_fine, ne_eqb h.kind 8 e) refl

-- ---- which record a refusal means

-- What a record that is refused with 4 has: a name that is not well formed; or a good one, and a string that is not.
abbrev pub Broken : (way : Way) → List ℕ → Head → Type 0
Broken way doc h =
    (well_formed_in way.from.strings (part doc h.name h.name_length) ≡ false)
    ⊎ ((well_formed_in way.from.strings (part doc h.name h.name_length) ≡ true) × (h.kind ≡ 8) × (well_formed_in way.from.strings (part doc h.start h.size) ≡ false))

-- The records of t from n up to `to` are refused with m at p: that is one of them, and in 4 it is broken.
pub record Blamed (way : Way) (doc t : List ℕ) (n to m p : ℕ) : Type 0 where
  pub from : n ≤ p
  pub before : p < to
  pub broken : m ≡ bad_string → Broken way doc (head_of t p)

module _ (way : Way) (doc : List ℕ) where
  -- A string is refused at the record, and with 4 only where it is not well formed.
  string-told : (start size n : ℕ) → Answers (λ m p. (p ≡ n) × (m ≡ bad_string → well_formed_in way.from.strings (part doc start size) ≡ false)) Any (string_fine way doc start size n)
  unfolding string_fine
  string-told start size n =
      guard-answers (leb size string_limit) long_string n _ (λ _. (refl, λ e. absurd (omega (arith, e))))
      (λ _. go (well_formed_in way.from.strings (part doc start size)) (leb (length (recoded way (part doc start size))) string_limit))
    where
      go : (b c : Bool) → Answers (λ m p. (p ≡ n) × (m ≡ bad_string → b ≡ false)) Any (guard b bad_string n >> guard c long_string n)
      go true true = got-answers tt
      go true false = no-answers n (refl, λ e. absurd (omega (arith, e)))
      go false c = no-answers n (refl, λ e. refl)

  -- One that passes is well formed.
  string-passed : (start size n : ℕ) → string_fine way doc start size n ≡ got tt → well_formed_in way.from.strings (part doc start size) ≡ true
  unfolding string_fine
  string-passed start size n e = go (leb size string_limit) (well_formed_in way.from.strings (part doc start size)) (leb (length (recoded way (part doc start size))) string_limit) e
    where
      go : (a b c : Bool) → (guard a long_string n >> (guard b bad_string n >> guard c long_string n)) ≡ got tt → b ≡ true
      go true true c e = refl
      go true false c e = absurd (got-no (sym e))
      go false b c e = absurd (got-no (sym e))

  -- A payload is refused at the record, and with 4 only where it is a string that is not well formed.
  payload-told : (h : Head) (n : ℕ)
      → Answers (λ m p. (p ≡ n) × (m ≡ bad_string → (h.kind ≡ 8) × (well_formed_in way.from.strings (part doc h.start h.size) ≡ false))) Any (payload_fine way doc h n)
  unfolding payload_fine
  payload-told h n = go (eqb h.kind 8) refl
    where
      go : (b : Bool) → eqb h.kind 8 ≡ b
          → Answers {A = Unit {0}} (λ m p. (p ≡ n) × (m ≡ bad_string → (h.kind ≡ 8) × (well_formed_in way.from.strings (part doc h.start h.size) ≡ false))) Any
          (elim b [ true ↦ string_fine way doc h.start h.size n | false ↦ got tt ])
      go true k = refused-also (string_fine way doc h.start h.size n) (string-told h.start h.size n) (λ m p w. (w.0, λ e. (eqb-true h.kind 8 k, w.1 e)))
      go false k = got-answers tt

  module _ (t : List ℕ) where
    -- Records that stand in a table are refused at one of them.
    pub judged-told : (left : ℕ) (list : Bool) (k : ℕ) (earlier : Forest) (n : ℕ) (f : Forest) → Sits t n f
        → Answers (Blamed way doc t n (n + size f)) Any (judged way doc left list k earlier n f)
    unfolding judged size
    judged-told left list k earlier n none s = got-answers tt
    judged-told left list k earlier n (node h inner later) s =
        then-answers (string_fine way doc h.name h.name_length n) _
        (refused-also (string_fine way doc h.name h.name_length n) (string-told h.name h.name_length n) (λ m p w. here m p w.0 (λ e. inl (w.1 e))))
        (λ g. guard-answers (list || not (has_name doc (part doc h.name h.name_length) earlier)) name_twice n _ (λ _. other name_twice (λ e. omega (arith, e)))
        (λ _. guard-answers (not (holds h.kind) || ltb 0 left) too_deep n _ (λ _. other too_deep (λ e. omega (arith, e)))
        (λ _. guard-answers (not list || eqb h.kind k) mixed_list n _ (λ _. other mixed_list (λ e. omega (arith, e)))
        (λ _. then-answers (payload_fine way doc h n) _
        (refused-also (payload_fine way doc h n) (payload-told h n)
        (λ m p w. here m p w.0 (λ e. inr (string-passed h.name h.name_length n g, (w.1 e).0, (w.1 e).1))))
        (λ _. then-answers (judged way doc (left - 1) (eqb h.kind 9) h.list_kind none (n + 1) inner) _
        (refused-also (judged way doc (left - 1) (eqb h.kind 9) h.list_kind none (n + 1) inner)
        (judged-told (left - 1) (eqb h.kind 9) h.list_kind none (n + 1) inner (sits-inner t n h inner later s))
        (λ m p b. record { from = omega (arith, b.from); before = omega (arith, b.before); broken = b.broken }))
        (λ _. refused-also (judged way doc left list k (earlier ⊕ node h inner none) (n + 1 + size inner) later)
        (judged-told left list k (earlier ⊕ node h inner none) (n + 1 + size inner) later (sits-later t n h inner later s))
        (λ m p b. record { from = omega (arith, b.from); before = omega (arith, b.before); broken = b.broken })))))))
      where
        -- The first record itself is refused.
        here : (m p : ℕ) → p ≡ n → (m ≡ bad_string → Broken way doc h) → Blamed way doc t n (n + (1 + size inner + size later)) m p
        here m p e w = subst (λ (q : ℕ). Blamed way doc t n (n + (1 + size inner + size later)) m q) (sym e) (record {
          from = omega arith;
          before = omega arith;
          broken = λ b. subst (Broken way doc) (sym (head-of t n h _ (sits-first t n h inner later s))) (w b);
        })

        -- With another number than 4.
        other : (m : ℕ) → (m ≡ bad_string → ⊥) → Blamed way doc t n (n + (1 + size inner + size later)) m n
        other m d = here m n refl (λ e. absurd (d e))
