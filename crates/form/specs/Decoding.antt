-- The string rules computed: what some bytes begin with, and where the first sequence that can't be read begins. proofs/Strings.antt
-- shows that this is what Strings.antt says, both ways.
-- Assumes nothing.
use Rattle.std.specs.Prelude.{ℕ, zero, suc, ◌+◌, ◌*◌, ◌%◌, ◌≡◌, ◌↔◌, Bool, true, false, List, [], ◌∷◌, length, drop, ltb, leb, eqb}
use Rattle.form.specs.Answer.{pick}
use Rattle.form.specs.Form.{Rule, modified, utf8}
use Rattle.form.specs.Strings.{WellFormedBy, FirstBadBy}

-- What some bytes begin with: a value and how many bytes it takes, or nothing that can be read.
pub data Sequence : Type 0 where
  is : ℕ → ℕ → Sequence
  stuck : Sequence

-- All of it can be read, or the offset at which the first sequence that can't be begins.
pub data Verdict : Type 0 where
  good : Verdict
  bad : ℕ → Verdict

-- A byte that follows a lead byte carries six bits.
abbrev pub six : ℕ → ℕ → ℕ
six hi b = hi * 64 + b % 64

-- Two bytes: C0 80 is 0, and no other unit below 128 is written so.
unfoldable pub two_of : ℕ → ℕ → Sequence
two_of a b =
    pick (ltb b 128) stuck
    (pick (leb 192 b) stuck
    (pick (eqb (six (a % 32) b) 0) (is (six (a % 32) b) 2)
    (pick (ltb (six (a % 32) b) 128) stuck (is (six (a % 32) b) 2))))

-- Three bytes: no unit below 2048.
unfoldable pub three_of : ℕ → ℕ → ℕ → Sequence
three_of a b c =
    pick (ltb b 128) stuck
    (pick (leb 192 b) stuck
    (pick (ltb c 128) stuck
    (pick (leb 192 c) stuck
    (pick (ltb (six (six (a % 16) b) c) 2048) stuck (is (six (six (a % 16) b) c) 3)))))

abbrev pub after_two : ℕ → ℕ → List ℕ → Sequence
after_two a b [] = stuck
after_two a b (c ∷ l) = three_of a b c

abbrev pub after_one : ℕ → List ℕ → Sequence
after_one a [] = stuck
after_one a (b ∷ l) = pick (ltb a 224) (two_of a b) (pick (leb 240 a) stuck (after_two a b l))

-- The 16-bit unit that some bytes begin with.
unfoldable pub unit_of : List ℕ → Sequence
unit_of [] = stuck
unit_of (a ∷ l) =
    pick (eqb a 0) stuck (pick (ltb a 128) (is a 1) (pick (ltb a 192) stuck (after_one a l)))

-- Two halves assembled into one scalar value.
unfoldable pub pair_of : ℕ → ℕ → ℕ
pair_of hi lo = 65536 + (hi % 1024 * 1024 + lo % 1024)

-- A high half needs a low half behind it.
abbrev pub with_low : ℕ → ℕ → Sequence → Sequence
with_low u n stuck = stuck
with_low u n (is v m) = pick (ltb v 56320) stuck (pick (leb 57344 v) stuck (is (pair_of u v) (n + m)))

abbrev pub paired : List ℕ → Sequence → Sequence
paired l stuck = stuck
paired l (is u n) =
    pick (ltb u 55296) (is u n)
    (pick (leb 57344 u) (is u n)
    (pick (leb 56320 u) stuck (with_low u n (unit_of (drop n l)))))

-- The scalar value that some bytes of modified UTF-8 begin with.
unfoldable pub scalar_of : List ℕ → Sequence
scalar_of l = paired l (unit_of l)

-- Four bytes, of UTF-8 alone: U+10000 to U+10FFFF.
unfoldable pub four_of : ℕ → ℕ → ℕ → ℕ → Sequence
four_of a b c d =
    pick (ltb b 128) stuck
    (pick (leb 192 b) stuck
    (pick (ltb c 128) stuck
    (pick (leb 192 c) stuck
    (pick (ltb d 128) stuck
    (pick (leb 192 d) stuck
    (pick (ltb (six (six (six (a % 8) b) c) d) 65536) stuck
    (pick (leb 1114112 (six (six (six (a % 8) b) c) d)) stuck
    (is (six (six (six (a % 8) b) c) d) 4))))))))

abbrev pub three_more : ℕ → List ℕ → Sequence
three_more a [] = stuck
three_more a (b ∷ []) = stuck
three_more a (b ∷ c ∷ []) = stuck
three_more a (b ∷ c ∷ d ∷ l) = four_of a b c d

-- One to three bytes are as in modified UTF-8, but for C0 80 and the halves of a pair.
abbrev pub unpaired : Sequence → Sequence
unpaired stuck = stuck
unpaired (is u n) =
    pick (eqb u 0) stuck
    (pick (ltb u 55296) (is u n)
    (pick (ltb u 57344) stuck (is u n)))

-- The scalar value that some bytes of UTF-8 begin with.
unfoldable pub utf8_of : List ℕ → Sequence
utf8_of [] = stuck
utf8_of (a ∷ l) =
    pick (eqb a 0) (is 0 1)
    (pick (leb 240 a) (pick (leb 248 a) stuck (three_more a l))
    (unpaired (unit_of (a ∷ l))))

-- ---- a whole list, for any way of reading one value

abbrev pub onward : (List ℕ → ℕ → Verdict) → List ℕ → ℕ → Sequence → Verdict
onward k l i stuck = bad i
onward k l i (is c n) = k (drop n l) (i + n)

-- l is what is left and i its offset; the first number bounds the turns.
unfoldable pub walk : (List ℕ → Sequence) → ℕ → List ℕ → ℕ → Verdict
walk one zero [] i = good
walk one zero (a ∷ l) i = bad i
walk one (suc f) [] i = good
walk one (suc f) (a ∷ l) i = onward (walk one f) (a ∷ l) i (one (a ∷ l))

unfoldable pub verdict_by : (List ℕ → Sequence) → List ℕ → Verdict
verdict_by one l = walk one (length l) l 0

-- What some bytes begin with by a rule (02, [2]).
abbrev pub one_of : Rule → List ℕ → Sequence
one_of modified = scalar_of
one_of utf8 = utf8_of

-- The verdict by a rule.
abbrev pub verdict_in : Rule → List ℕ → Verdict
verdict_in r l = verdict_by (one_of r) l

-- The verdict on modified UTF-8, and on UTF-8.
abbrev pub verdict : List ℕ → Verdict
verdict l = verdict_in modified l

abbrev pub utf8_verdict : List ℕ → Verdict
utf8_verdict l = verdict_in utf8 l

abbrev pub is_good : Verdict → Bool
is_good good = true
is_good (bad k) = false

-- Refusal 4's test.
abbrev pub well_formed_in : Rule → List ℕ → Bool
well_formed_in r l = is_good (verdict_in r l)

-- What the verdict on some bytes promises: it is the computed one; it is good exactly where the bytes are the encoding of scalar values;
-- and where it is bad, at k, there the first sequence that can't be read begins.
pub record Judged (enc : ℕ → List ℕ) (one : List ℕ → Sequence) (s : List ℕ) (v : Verdict) : Type 0 where
  pub is : v ≡ verdict_by one s
  pub good_is : (v ≡ good) ↔ WellFormedBy enc s
  pub bad_is : (k : ℕ) → v ≡ bad k → FirstBadBy enc s k
