-- Worked examples of the public documents that the format rests on, in one list: what is asked, and what the document answers.
-- proofs/Examples.antt shows by computing that the definitions answer so. IEEE 754's are in Rounding.antt (`tenth`, `whole-ties`).
-- Assumes nothing.
use Rattle.std.specs.Prelude.{ℕ, ◌≡◌, List, [], ◌∷◌, map}
use Prim.Native.String as text
use Rattle.form.specs.Answer.{Out, got, no, bad_string, bad_text}
use Rattle.form.specs.Strings.{scalar_bytes, utf8_bytes, encode_by}
use Rattle.form.specs.Decoding.{Verdict, good, bad, verdict, utf8_verdict}
use Rattle.demands.specs.Marked.{unhex, Asked, read, write, scalar, answer_to}

-- What an example asks: what a marked record may ask; some scalar values in modified UTF-8 or in UTF-8; or whether bytes are UTF-8.
pub data Question : Type 0 where
  as_marked : Asked → Question
  modified : List ℕ → Question
  utf8 : List ℕ → Question
  judge : text.String → Question

-- Bytes that are judged: the bytes themselves, or refusal n at the first sequence that can't be read.
abbrev pub verdict_answer : ℕ → List ℕ → Verdict → Out (List ℕ)
verdict_answer n bs good = got bs
verdict_answer n bs (bad k) = no n k

-- What the definitions answer: values are encoded, and what comes of it is judged.
abbrev pub reply_to : Question → Out (List ℕ)
reply_to (as_marked a) = answer_to a
reply_to (modified cs) = verdict_answer bad_string (encode_by scalar_bytes cs) (verdict (encode_by scalar_bytes cs))
reply_to (utf8 cs) = verdict_answer bad_text (encode_by utf8_bytes cs) (utf8_verdict (encode_by utf8_bytes cs))
reply_to (judge bs) = verdict_answer bad_text (unhex bs) (utf8_verdict (unhex bs))

-- The compound `hello world` with the string Bananrama under `name`.
abbrev pub hello_world : text.String
hello_world = "0A000B68656C6C6F20776F726C640800046E616D65000942616E616E72616D6100"

-- The examples.
unfoldable pub examples : List (Question × Out (List ℕ))
examples =
    -- Named Binary Tag, the format's own description: its first document, read and written back
    (as_marked (read hello_world), got (33 ∷ 10 ∷ 3 ∷ 11 ∷ 0 ∷ 0 ∷ 1 ∷ 0 ∷ 2 ∷ 0 ∷ 8 ∷ 17 ∷ 4 ∷ 23 ∷ 9 ∷ 0 ∷ 0 ∷ 2 ∷ 0 ∷ []))
    ∷ (as_marked (write hello_world), got (unhex hello_world))
    -- java.io.DataInput, the tables of modified UTF-8: U+0001 to U+007F take one byte; U+0000 and U+0080 to U+07FF two; U+0800 to U+FFFF three
    ∷ (modified (0x1 ∷ 0x7F ∷ []), got (unhex "017F"))
    ∷ (modified (0x0 ∷ 0x80 ∷ 0x7FF ∷ []), got (unhex "C080C280DFBF"))
    ∷ (modified (0x800 ∷ 0xFFFF ∷ []), got (unhex "E0A080EFBFBF"))
    -- there too: a supplementary character is its two surrogates, of three bytes each
    ∷ (modified (0x233B4 ∷ []), got (unhex "EDA18CEDBEB4"))
    ∷ (as_marked (scalar "EDA18CEDBEB4"), got (0x233B4 ∷ 6 ∷ []))
    -- RFC 3629, section 7: A, not identical to, Alpha and a full stop; `hangugeo`; `nihongo`; U+233B4 behind a byte order mark
    ∷ (utf8 (0x41 ∷ 0x2262 ∷ 0x391 ∷ 0x2E ∷ []), got (unhex "41E289A2CE912E"))
    ∷ (utf8 (0xD55C ∷ 0xAD6D ∷ 0xC5B4 ∷ []), got (unhex "ED959CEAB5ADEC96B4"))
    ∷ (utf8 (0x65E5 ∷ 0x672C ∷ 0x8A9E ∷ []), got (unhex "E697A5E69CACE8AA9E"))
    ∷ (utf8 (0xFEFF ∷ 0x233B4 ∷ []), got (unhex "EFBBBFF0A38EB4"))
    -- RFC 3629, section 3: an overlong U+0000 and a surrogate pair are not UTF-8
    ∷ (judge "C080", no bad_text 0)
    ∷ (judge "EDA18CEDBEB4", no bad_text 0)
    ∷ []

-- `worked`: the definitions answer each example as its document does.
abbrev pub AreWorked : Type 0
AreWorked = map (λ e. reply_to e.0) examples ≡ map (λ e. e.1) examples
