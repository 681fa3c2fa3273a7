-- The lines of text: each a form whose marks, "%", stand for numbers.
use Rattle.std.specs.Prelude.{ℕ, List, [], ◌∷◌, ◌++◌}
use Rattle.lists.specs.Tests.{when◌then◌else◌, ◌=?◌}
use Rattle.wording.specs.Text.{mark, space_mark, newline, FillsForm}
use Rattle.tally.specs.declared.CallTold.{CallTold}
use Rattle.tally.specs.declared.Sums.{Sums}

-- " stray", " done", " refused"
abbrev pub stray_word : List ℕ
stray_word = 32 ∷ 115 ∷ 116 ∷ 114 ∷ 97 ∷ 121 ∷ []

abbrev pub done_word : List ℕ
done_word = 32 ∷ 100 ∷ 111 ∷ 110 ∷ 101 ∷ []

abbrev pub refused_word : List ℕ
refused_word = 32 ∷ 114 ∷ 101 ∷ 102 ∷ 117 ∷ 115 ∷ 101 ∷ 100 ∷ []

-- the word of a packet's answer: 2 is stray, 3 done, and 4 refused
unfoldable pub kind_word : ℕ → List ℕ
kind_word n =
    when n =? 2 then stray_word
    else when n =? 3 then done_word
    else refused_word

-- "event offset kind command reason place cells"
abbrev pub event_form : ℕ → List ℕ
event_form n = mark ++ space_mark ++ kind_word n ++ space_mark ++ space_mark ++ space_mark ++ space_mark ++ newline

abbrev pub event_numbers : ℕ → ℕ → CallTold → List ℕ
event_numbers packet offset c = packet ∷ offset ∷ c.command ∷ c.reason ∷ c.place ∷ c.listed ∷ []

-- "end ", " skipped ", " held ", " checked "
abbrev pub end_word : List ℕ
end_word = 101 ∷ 110 ∷ 100 ∷ 32 ∷ []

abbrev pub skipped_word : List ℕ
skipped_word = 32 ∷ 115 ∷ 107 ∷ 105 ∷ 112 ∷ 112 ∷ 101 ∷ 100 ∷ 32 ∷ []

abbrev pub held_word : List ℕ
held_word = 32 ∷ 104 ∷ 101 ∷ 108 ∷ 100 ∷ 32 ∷ []

abbrev pub checked_word : List ℕ
checked_word = 32 ∷ 99 ∷ 104 ∷ 101 ∷ 99 ∷ 107 ∷ 101 ∷ 100 ∷ 32 ∷ []

abbrev pub end_form : List ℕ
end_form = end_word ++ mark ++ skipped_word ++ mark ++ held_word ++ mark ++ checked_word ++ mark ++ newline

abbrev pub end_numbers : Sums → ℕ → List ℕ
end_numbers s held = s.taken ∷ s.dropped ∷ held ∷ s.checked ∷ []

-- what `event` and `end` promise of the buffer and the length
abbrev pub Events : List ℕ → ℕ → ℕ → CallTold → ℕ → List ℕ → Type 0
Events out packet offset c r out' = FillsForm out (event_form c.number) (event_numbers packet offset c) r out'

abbrev pub Ends : List ℕ → Sums → ℕ → ℕ → List ℕ → Type 0
Ends out s held r out' = FillsForm out end_form (end_numbers s held) r out'
