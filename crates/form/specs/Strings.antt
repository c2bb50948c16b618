-- Rule 2: modified UTF-8 as java.io.DataInput describes it, limited to Unicode scalar values; and ordinary UTF-8 (RFC 3629).
-- Assumes nothing.
use Rattle.std.specs.Prelude.{ℕ, ◌+◌, ◌-◌, ◌/◌, ◌%◌, ◌≤◌, ◌<◌, ◌≡◌, ◌⊎◌, List, [], ◌∷◌, ◌++◌, length, ltb, eqb}
use Rattle.form.specs.Answer.{pick}
use Rattle.form.specs.Form.{Rule, modified, utf8}

-- A lead byte and one byte of six bits.
abbrev pub two_bytes : ℕ → List ℕ
two_bytes u = (192 + u / 64) ∷ (128 + u % 64) ∷ []

-- A lead byte and two bytes of six bits.
abbrev pub three_bytes : ℕ → List ℕ
three_bytes u = (224 + u / 4096) ∷ (128 + u / 64 % 64) ∷ (128 + u % 64) ∷ []

-- A lead byte and three bytes of six bits, of UTF-8 alone.
abbrev pub four_bytes : ℕ → List ℕ
four_bytes u = (240 + u / 262144) ∷ (128 + u / 4096 % 64) ∷ (128 + u / 64 % 64) ∷ (128 + u % 64) ∷ []

-- A 16-bit unit: 1 to 127 in one byte, 128 to 2047 and 0 in two, the rest in three.
unfoldable pub unit_bytes : ℕ → List ℕ
unit_bytes u =
    pick (eqb u 0) (two_bytes u)
    (pick (ltb u 128) (u ∷ [])
    (pick (ltb u 2048) (two_bytes u) (three_bytes u)))

-- The pairing: the high and the low half of a scalar value above the basic plane.
abbrev pub high_half : ℕ → ℕ
high_half c = 55296 + (c - 65536) / 1024

abbrev pub low_half : ℕ → ℕ
low_half c = 56320 + (c - 65536) % 1024

-- A scalar value in modified UTF-8: its unit, or above the basic plane its two halves.
unfoldable pub scalar_bytes : ℕ → List ℕ
scalar_bytes c = pick (ltb c 65536) (unit_bytes c) (unit_bytes (high_half c) ++ unit_bytes (low_half c))

-- A scalar value in UTF-8.
unfoldable pub utf8_bytes : ℕ → List ℕ
utf8_bytes c =
    pick (ltb c 128) (c ∷ [])
    (pick (ltb c 2048) (two_bytes c)
    (pick (ltb c 65536) (three_bytes c) (four_bytes c)))

-- A Unicode scalar value: no surrogate, at most U+10FFFF.
abbrev pub IsScalar : ℕ → Type 0
IsScalar c = ((c < 55296) ⊎ (57344 ≤ c)) × (c < 1114112)

abbrev pub AllScalar : List ℕ → Type 0
AllScalar [] = Unit {0}
AllScalar (c ∷ cs) = IsScalar c × AllScalar cs

-- The encoding of a list, by the encoding of one.
abbrev pub encode_by : (ℕ → List ℕ) → List ℕ → List ℕ
encode_by enc [] = []
encode_by enc (c ∷ cs) = enc c ++ encode_by enc cs

-- Bytes are well formed where they are the encoding of some list of scalar values.
abbrev pub WellFormedBy : (ℕ → List ℕ) → List ℕ → Type 0
WellFormedBy enc l = (cs : List ℕ) × AllScalar cs × (encode_by enc cs ≡ l)

-- k is the offset at which the first sequence that can't be read begins: what stands before it is well formed, something follows, and
-- that begins with no scalar value's encoding.
pub record FirstBadBy (enc : ℕ → List ℕ) (l : List ℕ) (k : ℕ) : Type 0 where
  pub before : List ℕ
  pub rest : List ℕ
  pub scalars : AllScalar before
  pub split : l ≡ encode_by enc before ++ rest
  pub place : k ≡ length (encode_by enc before)
  pub more : rest ≡ [] → ⊥
  pub stuck : (c : ℕ) (t : List ℕ) → IsScalar c → rest ≡ enc c ++ t → ⊥

-- The encoding of a scalar value by a rule (02, [2]).
abbrev pub enc_of : Rule → ℕ → List ℕ
enc_of modified = scalar_bytes
enc_of utf8 = utf8_bytes

-- Refusal 4, by the rule of the document's form.
abbrev pub WellFormedIn : Rule → List ℕ → Type 0
WellFormedIn r l = WellFormedBy (enc_of r) l

abbrev pub FirstBadIn : Rule → List ℕ → ℕ → Type 0
FirstBadIn r l k = FirstBadBy (enc_of r) l k

-- Rule 2's own: modified UTF-8.
abbrev pub WellFormed : List ℕ → Type 0
WellFormed l = WellFormedIn modified l

abbrev pub FirstBad : List ℕ → ℕ → Type 0
FirstBad l k = FirstBadIn modified l k

-- Refusal 15: ordinary UTF-8.
abbrev pub WellFormedUtf8 : List ℕ → Type 0
WellFormedUtf8 l = WellFormedIn utf8 l
