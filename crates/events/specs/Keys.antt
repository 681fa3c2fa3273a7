-- Key events: "key number = bit number", up 0, enter 1, cancel 2, left 3, right 4, down 5.
use Rattle.std.specs.Prelude.{ℕ, ◌+◌, ◌≡◌, Bool, true, false, not, List, [], ◌∷◌, length, get_or}
use Rattle.lists.specs.Tests.{when◌then◌else◌, ◌≤?◌, ◌=?◌}
use Rattle.lists.specs.Runs.{front}
use Rattle.bits.specs.Bits.{is_on, with_bit, without_bit}
use Rattle.packets.specs.Packet.{reply_size, packet_bytes, composed_length, composed}
use Rattle.panel.specs.declared.Masks.{Masks}
use Rattle.panel.specs.declared.Keys.{Keys}
use Rattle.panel.specs.declared.Panel.{Panel}
use Rattle.panel.specs.State.{with_keys, with_body}
use Rattle.ranges.specs.Ranges.{in_ranges}
use Rattle.answers.specs.declared.Check.{Check}
use Rattle.answers.specs.declared.Check.TheVariants.{StateRange, ReplySize, KeyOrPin, KeyAsTold}
use Rattle.answers.specs.declared.Said.{Said}
use Rattle.answers.specs.Answer.{refused_call, accepted_call}
use Rattle.answers.specs.Checks.{Test, test, decided}

-- "A key event always updates command 24's three bytes": down, pressed, released since last poll
unfoldable pub key_event : Bool → ℕ → Keys → Keys
key_event true number k =
    record { down = with_bit k.down number; pressed = with_bit k.pressed number; released = k.released }
key_event false number k =
    record { down = without_bit k.down number; pressed = k.pressed; released = with_bit k.released number }

-- the live press mask for a press, the live release mask for a release
abbrev pub mask_for : Bool → Masks → ℕ
mask_for true m = m.press
mask_for false m = m.release

-- "up 1, down 2, left 3, right 4, enter 5, cancel 6 for a press, plus 6 for a release", by key number
abbrev pub press_code : ℕ → ℕ
press_code number = get_or (1 ∷ 5 ∷ 6 ∷ 3 ∷ 4 ∷ 2 ∷ []) number 0

abbrev pub report_code : Bool → ℕ → ℕ
report_code true number = press_code number
report_code false number = press_code number + 6

-- "a report of type 128, length 1"
abbrev pub report_bytes : Bool → ℕ → List ℕ
report_bytes down number = packet_bytes 128 (report_code down number ∷ [])

-- "key already up or down as told"
unfoldable pub as_told : Bool → ℕ → Keys → Bool
as_told true number k = is_on k.down number
as_told false number k = not (is_on k.down number)

-- "key calls 10, 15, 17, 18": whether the state is in its ranges, the reply buffer's size, the key, and the keys that are down
abbrev pub key_tests : Bool → ℕ → ℕ → Bool → Keys → List Test
key_tests in_range reply number down keys =
    test in_range StateRange
    ∷ test (reply =? reply_size) ReplySize
    ∷ test (number ≤? 5) KeyOrPin
    ∷ test (not (as_told down number keys)) KeyAsTold
    ∷ []

-- "If its mask bit is set, a report .. is written"
abbrev pub reports : Panel → ℕ → Bool → Bool
reports p number down = is_on (mask_for down p.body.live.masks) number

abbrev pub key_accepted : Panel → ℕ → Bool → Said
key_accepted p number down =
    accepted_call (with_body p (with_keys p.body (key_event down number p.body.keys))) (when reports p number down then 5 else 0)

abbrev pub key_decided {ℓ} : {A : Type ℓ} → Panel → ℕ → Bool → List ℕ → (Check → A) → A → A
key_decided p number down reply refused accepted = decided (key_tests (in_ranges p) (length reply) number down p.body.keys) refused accepted

abbrev pub key_said : Panel → ℕ → Bool → List ℕ → Said
key_said p number down reply = key_decided p number down reply (refused_call p) (key_accepted p number down)

abbrev pub key_reply : Panel → ℕ → Bool → List ℕ → List ℕ
key_reply p number down reply =
    key_decided p number down reply (λ check. reply) (when reports p number down then front (report_bytes down number) reply else reply)

-- what `report` promises of its result and of the reply buffer
abbrev pub ReportsBy : ℕ → ℕ → Bool → List ℕ → ℕ → List ℕ → Type 0
ReportsBy mask number down reply r reply' =
    (r ≡ (when is_on mask number then composed_length reply (report_code down number ∷ []) else 0))
    × (reply' ≡ (when is_on mask number then composed reply 128 (report_code down number ∷ []) else reply))

-- what `key` promises of its result and of the reply buffer
abbrev pub Presses : Panel → ℕ → Bool → List ℕ → Said → List ℕ → Type 0
Presses p number down reply r reply' = (r ≡ key_said p number down reply) × (reply' ≡ key_reply p number down reply)
