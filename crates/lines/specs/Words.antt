-- Words of four bytes each.
-- Assumes nothing.
use Rattle.std.specs.Prelude.{ℕ, ◌*◌, ◌/◌, min, List, length, ltb}
use Rattle.form.specs.Answer.{pick}
use Rattle.form.specs.Numbers.{big_endian}
use Rattle.form.specs.Spans.{part, over}
use Rattle.lines.specs.Buffers.{firsts}

-- Word i of those that bytes make, the highest byte of each first (rule 1), and 0 where there are no four bytes for it.
unfoldable pub word_at : List ℕ → ℕ → ℕ
word_at bytes i = pick (ltb i (length bytes / 4)) (big_endian (part bytes (4 * i) 4)) 0

-- The table with the first n words that bytes make at its front, as far as it goes.
unfoldable pub with_words : List ℕ → ℕ → List ℕ → List ℕ
with_words bytes n table = over table 0 (firsts (word_at bytes) (min n (length table)))
