-- Text put together in a lent buffer: runs of bytes one behind the other, numbers in decimal digits, forms for numbers.
use Rattle.std.specs.Prelude.{ℕ, zero, suc, ◌+◌, ◌/◌, ◌%◌, ◌≡◌, List, [], ◌∷◌, ◌++◌, length, drop, get_or}
use Rattle.lists.specs.Tests.{when◌then◌else◌, ◌<?◌, ◌≤?◌, ◌=?◌}
use Rattle.lists.specs.Runs.{pasted}

-- a buffer, and how many bytes at its front are text
pub record Text : Type 0 where
  pub buffer : List ℕ
  pub size : ℕ

abbrev pub text : List ℕ → ℕ → Text
text buffer size = record { buffer = buffer; size = size }

-- a run behind the text; one that does not fit is left out
infixl 6 ◌then◌
unfoldable pub ◌then◌ : Text → List ℕ → Text
t then run = text (pasted t.buffer t.size run) (when t.size + length run ≤? length t.buffer then t.size + length run else t.size)

-- a number's decimal digits, of which there are at most `most`
unfoldable pub decimal_in : ℕ → ℕ → List ℕ
decimal_in zero n = []
decimal_in (suc most) n = when n <? 10 then ((48 + n) ∷ []) else decimal_in most (n / 10) ++ ((48 + n % 10) ∷ [])

-- there are at most n + 1
abbrev pub decimal : ℕ → List ℕ
decimal n = decimal_in (suc n) n

-- a form behind the text: each of its marks, "%", stands for the next number, every other byte for itself
unfoldable pub form_behind : Text → List ℕ → List ℕ → Text
form_behind t [] numbers = t
form_behind t (c ∷ form) numbers =
    when c =? 37 then form_behind (t then decimal (get_or numbers 0 0)) form (drop 1 numbers)
    else form_behind (t then (c ∷ [])) form numbers

-- "%", " %" and the end of a line, of which forms are made
abbrev pub mark : List ℕ
mark = 37 ∷ []

abbrev pub space_mark : List ℕ
space_mark = 32 ∷ 37 ∷ []

abbrev pub newline : List ℕ
newline = 10 ∷ []

-- what `filled` promises of the buffer and the length
abbrev pub FillsForm : List ℕ → List ℕ → List ℕ → ℕ → List ℕ → Type 0
FillsForm out form numbers r out' = text out' r ≡ form_behind (text out 0) form numbers
