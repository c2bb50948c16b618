-- Request [11] by example: documents cut at some place, with room for some records, lines and bytes, and what rescuing them gives.
-- Assumes nothing.
use Rattle.std.specs.Prelude.{ℕ, ◌≡◌, List, [], ◌∷◌, map}
use Prim.Native.String as text
use Rattle.form.specs.Form.{java}
use Rattle.form.specs.Cut.{Line, Rescue, saved, refused, rescued}
use Rattle.demands.specs.Marked.{unhex}

-- A document in hexadecimal digits, and the room for records, for lines and for bytes.
pub data Try : Type 0 where
  try : text.String → ℕ → ℕ → ℕ → Try

abbrev pub answer_to : Try → Rescue
answer_to (try doc room lines bytes) = rescued java (unhex doc) room lines bytes

abbrev pub line : ℕ → ℕ → ℕ → Line
line container promised kept = record { container = container; promised = promised; kept = kept }

unfoldable pub examples : List (Try × Rescue)
examples =
    -- the root alone, its name whole
    (try "0A0000" 1 1 4, saved (unhex "0A000000") (line 0 0 0 ∷ []))
    -- no room for the line, then none for the bytes
    ∷ (try "0A0000" 1 0 3, refused 24 0 1)
    ∷ (try "0A0000" 1 1 3, refused 13 0 0)
    -- nothing of the root, and its name cut
    ∷ (try "" 1 1 1, refused 32 0 0)
    ∷ (try "0A0001" 0 0 0, refused 32 3 0)
    -- an id byte alone, whatever it is; a name that is cut
    ∷ (try "0A00000D" 1 1 9, saved (unhex "0A000000") (line 0 0 0 ∷ []))
    ∷ (try "0A0000010001" 1 1 9, saved (unhex "0A000000") (line 0 0 0 ∷ []))
    -- a list of compounds of which no byte came: an empty list
    ∷ (try "0A00000900000A00000003" 3 2 20, saved (unhex "0A0000090000000000000000") (line 0 0 1 ∷ line 1 3 0 ∷ []))
    -- the first compound is whole, of the second no byte came
    ∷ (try "0A00000900000A0000000300" 4 2 20, saved (unhex "0A00000900000A000000010000") (line 0 0 1 ∷ line 1 3 1 ∷ []))
    -- the only element is open, and so is its list: 1 of 1
    ∷ (try "0A00000900000A0000000101" 4 3 20, saved (unhex "0A00000900000A000000010000") (line 0 0 1 ∷ line 1 1 1 ∷ line 2 0 0 ∷ []))
    -- three lines, and room for two
    ∷ (try "0A00000900000A0000000101" 4 2 20, refused 24 0 3)
    -- whole
    ∷ (try "0A00000900000A000000010000" 4 2 20, refused 31 0 0)
    -- three of three elements, the last open
    ∷ (try "0A00017201000161050900014C0A000000030100017801000009" 64 8 200, saved (unhex "0A00017201000161050900014C0A00000003010001780100000000") (line 0 0 2 ∷ line 2 3 3 ∷ line 6 0 0 ∷ []))
    -- a whole empty list loses its id, 05
    ∷ (
      try "0A00017201000161050900014C0A0000000301000178010000090001650500000000" 64 8 200,
      saved (unhex "0A00017201000161050900014C0A00000003010001780100000900016500000000000000") (line 0 0 2 ∷ line 2 3 3 ∷ line 6 0 1 ∷ []),
    )
    -- a list in a list: 1 of 3, and 1 of 2
    ∷ (try "0A00000900016E0900000003010000000201" 64 8 200, saved (unhex "0A00000900016E090000000101000000010100") (line 0 0 1 ∷ line 1 3 1 ∷ line 2 2 1 ∷ []))
    -- the third of three lists is open, with none of its one element
    ∷ (
      try "0A00000900016E09000000030100000002010207000000000300000001" 64 8 200,
      saved (unhex "0A00000900016E0900000003010000000201020000000000000000000000") (line 0 0 1 ∷ line 1 3 3 ∷ line 6 1 0 ∷ []),
    )
    ∷ []

-- `cut-examples`: the definition answers each as it says.
abbrev pub AreCutExamples : Type 0
AreCutExamples = map (λ r. answer_to r.0) examples ≡ map (λ r. r.1) examples
