-- The worked cases, computed.
use mathlib.Core.Path.{◌≡◌, refl}
use mathlib.Core.List.{map}
use Rattle.lists.specs.Tests.{when◌then◌else◌, all}
use Rattle.lists.specs.First.{first_below}
use Rattle.lists.specs.Runs.{pasted}
use Rattle.lists.specs.Rising.{passing}
use Rattle.bits.specs.Bits.{is_on, without_bit}
use Rattle.fcs.specs.Fcs.{after_bit, after_byte}
use Rattle.packets.specs.Packet.{composed_length, composed}
use Rattle.packets.specs.Judge.{checksum_right, judge}
use Rattle.framing.specs.Scan.{settle_at, settle, go_on, scan, scanned_of}
use Rattle.table.specs.Table.{look_up, config_allowed}
use Rattle.verdict.specs.Verdict.{in_range, first_out, is_reboot, whole_verdict, verdict_by}
use Rattle.glyphs.specs.Glyphs.{nested_of, flat_first, flat_of}
use Rattle.glyphs.specs.Source.{source_of}
use Rattle.sets.specs.Sets.{mark_for, searched_below, is_search}
use Rattle.panel.specs.State.{factory_settings, powered_on}
use Rattle.ranges.specs.Ranges.{all_of, cursor_in_range, dials_in_range, masks_in_range, parts_in_range, keys_in_range, pins_in_range, in_ranges}
use Rattle.effects.specs.Effects.{live_after, effect}
use Rattle.replies.specs.Replies.{memory, edges, reply_data}
use Rattle.perform.specs.Commands.{carried}
use Rattle.picture.specs.Draw.{drawn_from, code_drawn}
use Rattle.picture.specs.Repaint.{same}
use Rattle.answers.specs.Answer.{check_number, numbers_of, is_done}
use Rattle.answers.specs.Checks.{decided}
use Rattle.listen.specs.Reply.{ruling, answer_to, refused_length, refused_reply}
use Rattle.listen.specs.Listen.{answer_in, listened, listened_reply}
use Rattle.theorems.specs.Worked.{told, pieces_of, expected_of, worked_cases}

pub all_said : map (λ c. told powered_on (pieces_of c)) worked_cases ≡ map expected_of worked_cases
unfolding when◌then◌else◌ all_of all first_below pasted is_on without_bit after_bit after_byte composed_length composed checksum_right judge settle_at settle go_on scan scanned_of look_up config_allowed in_range first_out is_reboot whole_verdict verdict_by nested_of flat_first flat_of factory_settings powered_on cursor_in_range dials_in_range masks_in_range parts_in_range keys_in_range pins_in_range mark_for searched_below is_search in_ranges live_after effect memory edges reply_data carried source_of drawn_from code_drawn same passing check_number numbers_of is_done decided ruling answer_to refused_length refused_reply answer_in listened listened_reply told
all_said = refl
