-- What the answers of this crate mean: each as the answer of the definitions of rules 3 to 5.
-- Assumes nothing.
use Rattle.std.specs.Prelude.{ℕ, ◌+◌, ◌<◌, ◌≡◌, List, length, get_or, Option, Some, None, Result}
use Rattle.form.specs.Answer.{Out, got}
use Rattle.form.specs.Form.{Form}
use Rattle.form.specs.Reading.{Span, Entry as EntryOf, end, named, ListHead as ListHeadOf, number_at, list_head_at}
use Rattle.form.specs.Refusals.{out_of}
use Rattle.form.specs.declared.refusals.Refused.{Refused}
use Rattle.nbt_fields.specs.declared.Field.{Field}
use Rattle.nbt_fields.specs.declared.ListHead.{ListHead}
use Rattle.nbt_fields.specs.declared.Entry.{Entry}

-- A number, or its refusal.
abbrev pub num_out : Result ℕ Refused → Out ℕ
num_out r = out_of (λ n. n) r

-- A field's span, or the number and the place of its refusal.
abbrev pub span_of : Field → Span
span_of f = record { start = f.start; size = f.len; count = f.count; next = f.next }

abbrev pub part_out : Result Field Refused → Out Span
part_out r = out_of span_of r

-- A list's kind and count, or its refusal.
abbrev pub head_of : ListHead → ListHeadOf
head_of h = record { kind = h.kind; count = h.count }

abbrev pub list_head_out : Result ListHead Refused → Out ListHeadOf
list_head_out r = out_of head_of r

-- The head of a list at `at`, in every form and every document that has the kind there and the count behind it.
abbrev pub HeadIs : ℕ → ℕ → ℕ → Result ListHead Refused → Type 0
HeadIs kind count at r =
    (form : Form) (doc : List ℕ) → at < length doc → kind ≡ get_or doc at 0 → number_at form doc 4 (at + 1) ≡ got count → list_head_out r ≡ list_head_at form doc at

-- A compound's end, an entry's kind and the span of its name, or its refusal.
abbrev pub entry_of : Option Entry → EntryOf
entry_of None = end
entry_of (Some e) = named e.kind (record { start = e.start; size = e.len; count = 0; next = e.start + e.len })

abbrev pub entry_out : Result (Option Entry) Refused → Out EntryOf
entry_out r = out_of entry_of r
