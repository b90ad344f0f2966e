-- What a call leaves besides header and store: a record of its numbers and of what it shows, and a stretch of text for a sheet or a page. Assumes nothing.
use Rattle.std.specs.Prelude.{ℕ, ◌+◌, ◌≡◌, Bool, cond, List, [], ◌∷◌, ◌++◌}
use Rattle.model.specs.Floats.{bits}
use Rattle.model.specs.Calls.{Call, Form, as_words, as_bytes, as_entry, form_of, kind_of, Lent, Left, step, overlaid}
use Rattle.model.specs.declared.Answer.{Answer}
use Rattle.perform.specs.Encoding.{shown_words}

-- the numbers that begin a record; one that can show whatever a call shows
abbrev pub number_words : ℕ
number_words = 11

abbrev pub record_words : ℕ
record_words = number_words + shown_words

-- 0 or 1
abbrev pub flag_word : Bool → ℕ
flag_word dirty = cond dirty 1 0

-- the answer: of its header what a call can change, the entries listed and the flag; of what was lost the bits
abbrev pub numbers : Answer → List ℕ
numbers a =
    a.number
    ∷ a.counts.merged
    ∷ a.counts.stored
    ∷ a.counts.dropped
    ∷ a.counts.compared
    ∷ a.place
    ∷ a.length
    ∷ bits a.lost.dropped
    ∷ bits a.lost.truncated
    ∷ a.header.count
    ∷ flag_word a.header.dirty
    ∷ []

-- bytes are text; all else that a call writes or shows stands in its record
unfoldable pub in_record : Form → List ℕ → List ℕ
in_record as_words w = w
in_record as_bytes w = []
in_record as_entry w = w

unfoldable pub in_text : Form → List ℕ → List ℕ
in_text as_words w = []
in_text as_bytes w = w
in_text as_entry w = []

abbrev pub record_of : Call → Left → List ℕ
record_of c l = numbers l.answer ++ in_record (form_of (kind_of c)) l.output

abbrev pub text_of : Call → Left → List ℕ
text_of c l = in_text (form_of (kind_of c)) l.output

-- the call c, made on x: its answer, the words it left, its record and its text, past what it wrote as they were
pub record Made (c : Call) (x : Lent) (a : Answer) (w r r' t t' : List ℕ) : Type 0 where
  pub answer_is : a ≡ (step c x).answer
  pub words_are : w ≡ (step c x).words
  pub record_is : r' ≡ overlaid (record_of c (step c x)) r
  pub text_is : t' ≡ overlaid (text_of c (step c x)) t

-- .. and of a call that changes no word of the store and writes no text
pub record Looked (c : Call) (x : Lent) (a : Answer) (r r' : List ℕ) : Type 0 where
  pub answer_is : a ≡ (step c x).answer
  pub words_are : x.words ≡ (step c x).words
  pub record_is : r' ≡ overlaid (record_of c (step c x)) r
  pub no_text : text_of c (step c x) ≡ []
