-- One law for each answer of `write_page` to a sum that the tests in front let through. Assumes nothing.
use mathlib.Core.Path.{◌≡◌, refl, sym, ap, ◌∙◌}
use mathlib.Core.List.{List}
use Prim.Native.Nat.{ℕ, ◌*◌, ◌<◌, ◌≤◌}
use lib.ListN.{length}
use Rattle.model.specs.Page.{page_line_len, page_text}
use Rattle.model.specs.Numbers.{first_of}
use Rattle.model.specs.Calls.{Lent, page, argument_tests, kind_of, act, engine, sum_of, bare, refused_left, acted}
use Rattle.model.proofs.Entries.{length-stripped}
use Rattle.model.proofs.PageText.{length-page_text}
use Rattle.answers.proofs.Looked.{looked_left, text-short, text-written}

module _ (x : Lent) (room : ℕ) where
  abbrev text : List ℕ
  text = page_text (bare engine (sum_of x))

  pub text-long : x.header.count * page_line_len ≡ length text
  text-long = sym (length-page_text (bare engine (sum_of x)) ∙ ap (λ (k : ℕ). k * page_line_len) (length-stripped x.header.size x.header.count x.words))

  -- it has no arguments to test
  pub no_own : 0 ≡ first_of (argument_tests (page room) x.header.size x.header.count)
  unfolding argument_tests first_of
  no_own = refl

  -- 8: there is no room for the text
  pub short : room < length text → acted (page room) x ≡ refused_left x 8
  unfolding kind_of act
  short h = text-short (page room) x room text refl refl h

  -- 0: the text is written
  pub written : length text ≤ room → acted (page room) x ≡ looked_left x 0 text
  unfolding kind_of act
  written h = text-written (page room) x room text refl refl h
