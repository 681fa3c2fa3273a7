-- Document 01's worked cases P1 to P10: from power-on with the program's font, the pieces given to line calls one after the
-- other, and what each call says.
use Rattle.std.specs.Prelude.{ℕ, zero, suc, ◌/◌, ◌%◌, List, [], ◌∷◌, take, replicate}
use Rattle.packets.specs.Hold.{held}
use Rattle.panel.specs.declared.Panel.{Panel}
use Rattle.answers.specs.Answer.{numbers_of}
use Rattle.linecall.specs.Line.{lent, line_said, line_list, line_reply}

-- f a, f (a + 1), .. : n of them
abbrev counted : ℕ → ℕ → (ℕ → ℕ) → List ℕ
counted a zero f = []
counted a (suc n) f = f a ∷ counted (suc a) n f

-- "a font whose rows for code c all equal c mod 64"
abbrev pub program_font : List ℕ
program_font = counted 0 2048 (λ i. i / 8 % 64)

-- what a call says: number, command, reason, place; the reply; the cells listed; the bytes held; those taken, dropped and
-- run through the checksum
pub data Saying : Type 0 where
  says : (number command reason place : ℕ) (reply cells holds : List ℕ) (taken dropped checked : ℕ) → Saying

-- calls on pieces, one after the other, from a panel
unfoldable pub told : Panel → List (List ℕ) → List Saying
told p [] = []
told p (piece ∷ pieces) =
    let l = lent piece (replicate 640 0) program_font (replicate 80 0) (replicate 26 0) 64 in
    let s = line_said p l in
    let n = numbers_of s.answer in
    says n.number n.command n.reason n.place (take s.reply (line_reply p l)) (take s.listed (line_list p l)) (held s.panel.line.hold) s.counts.taken s.counts.dropped s.counts.checked
    ∷ told s.panel pieces

-- the pieces of a case, and what is said of them
pub data Case : Type 0 where
  case : (pieces : List (List ℕ)) (expected : List Saying) → Case

abbrev pub pieces_of : Case → List (List ℕ)
pieces_of (case pieces expected) = pieces

abbrev pub expected_of : Case → List Saying
expected_of (case pieces expected) = expected

abbrev ping : List ℕ
ping = 0x00 ∷ 0x00 ∷ 0x47 ∷ 0x0F ∷ []

abbrev pong : List ℕ
pong = 0x40 ∷ 0x00 ∷ 0x21 ∷ 0x49 ∷ []

abbrev bar_set : List ℕ
bar_set = 0x09 ∷ 0x09 ∷ 0x00 ∷ 0x01 ∷ 0x01 ∷ 0x01 ∷ 0x01 ∷ 0x01 ∷ 0x01 ∷ 0x01 ∷ 0x01 ∷ 0xD2 ∷ 0xFC ∷ []

abbrev pub worked_cases : List Case
worked_cases =
    -- P1 and P2
    case (ping ∷ []) (says 3 0 0 0 pong [] [] 4 0 2 ∷ [])
    ∷ case ((0x06 ∷ 0x00 ∷ 0x97 ∷ 0x5B ∷ []) ∷ []) (says 3 6 0 0 (0x46 ∷ 0x00 ∷ 0xF1 ∷ 0x1D ∷ []) [] [] 4 0 2 ∷ [])
    -- P3: reason 2, place 1
    ∷ case ((0x06 ∷ 0x01 ∷ 0x00 ∷ 0xCD ∷ 0x09 ∷ []) ∷ []) (says 4 6 2 1 (0xC6 ∷ 0x00 ∷ 0x3D ∷ 0x91 ∷ []) [] [] 5 0 3 ∷ [])
    -- P4: one byte dropped, then a ping; 4 checked
    ∷ case ((0xFF ∷ ping) ∷ []) (says 3 0 0 0 pong [] [] 5 1 4 ∷ [])
    -- P5: stray
    ∷ case (pong ∷ []) (says 2 0 0 0 [] [] [] 4 0 2 ∷ [])
    -- P6: waits, two held
    ∷ case ((0x00 ∷ 0x16 ∷ []) ∷ []) (says 1 0 0 0 [] [] (0x00 ∷ 0x16 ∷ []) 2 0 0 ∷ [])
    -- P7: one dropped, one held
    ∷ case ((0x00 ∷ 0x17 ∷ []) ∷ []) (says 1 0 0 0 [] [] (0x17 ∷ []) 2 1 0 ∷ [])
    -- P8: contrast 254 done; 255 reason 3, place 2
    ∷ case ((0x0D ∷ 0x01 ∷ 0xFE ∷ 0x9A ∷ 0x3E ∷ []) ∷ (0x0D ∷ 0x01 ∷ 0xFF ∷ 0x13 ∷ 0x2F ∷ []) ∷ [])
    (says 3 13 0 0 (0x4D ∷ 0x00 ∷ 0x59 ∷ 0xF9 ∷ []) [] [] 5 0 3 ∷ says 4 13 3 2 (0xCD ∷ 0x00 ∷ 0x95 ∷ 0x75 ∷ []) [] [] 5 0 3 ∷ [])
    -- P9: at column 19 one character done; two: reason 4, place 5
    ∷ case ((0x1F ∷ 0x03 ∷ 0x13 ∷ 0x00 ∷ 0x41 ∷ 0x7A ∷ 0x0D ∷ []) ∷ (0x1F ∷ 0x04 ∷ 0x13 ∷ 0x00 ∷ 0x41 ∷ 0x42 ∷ 0x62 ∷ 0x7D ∷ []) ∷ [])
    (says 3 31 0 0 (0x5F ∷ 0x00 ∷ 0x78 ∷ 0x5F ∷ []) (19 ∷ []) [] 7 0 5 ∷ says 4 31 4 5 (0xDF ∷ 0x00 ∷ 0xB4 ∷ 0xD3 ∷ []) [] [] 8 0 6 ∷ [])
    -- P10: code 0 written at column 3, row 1 lists cell 23; glyph 0 set to rows of 1 lists 23 again; once more lists none
    ∷ case ((0x1F ∷ 0x03 ∷ 0x03 ∷ 0x01 ∷ 0x00 ∷ 0xBA ∷ 0xC2 ∷ []) ∷ bar_set ∷ bar_set ∷ [])
    (says 3 31 0 0 (0x5F ∷ 0x00 ∷ 0x78 ∷ 0x5F ∷ []) (23 ∷ []) [] 7 0 5
    ∷ says 3 9 0 0 (0x49 ∷ 0x00 ∷ 0x39 ∷ 0x9E ∷ []) (23 ∷ []) [] 13 0 11
    ∷ says 3 9 0 0 (0x49 ∷ 0x00 ∷ 0x39 ∷ 0x9E ∷ []) [] [] 13 0 11
    ∷ [])
    ∷ []
