-- Request [2]: the form that a document is written in, by the order of a number's bytes and the rule that strings keep. Everything that is laid
-- out, read, judged, written and asked is said once, over a form; document 01 has the form `java`.
-- Assumes nothing.
use Rattle.std.specs.Prelude.{ℕ, ◌/◌, ◌%◌, Bool, true, false, eqb}
use Rattle.form.specs.Answer.{pick}

-- The order of a number's bytes: the highest first (rule 1), or the lowest first.
pub data Order : Type 0 where
  big : Order
  little : Order

-- The rule that strings keep: modified UTF-8 (rule 2), or ordinary UTF-8.
pub data Rule : Type 0 where
  modified : Rule
  utf8 : Rule

pub record Form : Type 0 where
  pub order : Order
  pub strings : Rule

-- Document 01's form.
abbrev pub java : Form
java = record { order = big; strings = modified }

-- The pocket edition's form.
abbrev pub pocket : Form
pocket = record { order = little; strings = utf8 }

-- The form of a query's bytes: its lengths and indices are big-endian whatever the document's form, its names keep the document's rule.
abbrev pub asks : Form → Form
asks form = record { order = big; strings = form.strings }

-- The order of a number whose lowest byte does, or does not, come first.
abbrev pub order_in : Bool → Order
order_in lowest = pick lowest little big

-- The form of a number, as a caller in C gives it: 2 is the pocket edition's, any other document 01's.
abbrev pub form_no : ℕ → Form
form_no n = record { order = order_in (eqb n 2); strings = pick (eqb n 2) utf8 modified }

-- ---- from one form into another

-- The form that a document has, and the form that it is written in.
pub record Way : Type 0 where
  pub from : Form
  pub to : Form

abbrev pub way_from : Form → Form → Way
way_from a b = record { from = a; to = b }

-- A document that is written in its own form.
abbrev pub stays : Form → Way
stays form = way_from form form

-- The way back.
abbrev pub back : Way → Way
back way = way_from way.to way.from

-- Both forms in one number.
abbrev pub way_no : ℕ → Way
way_no n = way_from (form_no (n % 256)) (form_no (n / 256))

abbrev pub same_order : Order → Order → Bool
same_order big big = true
same_order big little = false
same_order little big = false
same_order little little = true

abbrev pub same_rule : Rule → Rule → Bool
same_rule modified modified = true
same_rule modified utf8 = false
same_rule utf8 modified = false
same_rule utf8 utf8 = true
