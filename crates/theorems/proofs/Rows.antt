-- What holds after each row of the column "does" holds after a command.
use Prim.Native.Nat.{ℕ}
use mathlib.Core.Path.{◌≡◌}
use mathlib.Core.Bool.{true}
use mathlib.Core.List.{List}
use lib.ListN.{get_or}
use Rattle.lists.specs.Tests.{◌=?◌}
use Rattle.lists.proofs.Laws.{when_either}
use Rattle.panel.specs.declared.Settings.{Settings}
use Rattle.panel.specs.declared.Body.{Body}
use Rattle.panel.specs.State.{with_style, with_contrast, with_backlight, with_live, with_text, with_keys, with_pins}
use Rattle.effects.specs.Effects.{with_flash, stored, polled, rebooted, with_shown, with_cursor, with_dials, with_masks, with_wires, cleared, glyph_set, cursor_at, masks_given, text_written, pin_set, pin_read, live_after, effect}

module _ (code : ℕ) (d : List ℕ) where
  -- in the order of `live_after`
  pub live_rows : (P : Settings → Type 0) (s : Settings) → ((code =? 9) ≡ true → P (with_shown s (glyph_set s.shown d)))
      → ((code =? 11) ≡ true → P (with_cursor s (cursor_at d)))
      → ((code =? 12) ≡ true → P (with_dials s (with_style s.dials (get_or d 0 0))))
      → ((code =? 13) ≡ true → P (with_dials s (with_contrast s.dials (get_or d 0 0))))
      → ((code =? 14) ≡ true → P (with_dials s (with_backlight s.dials (get_or d 0 0))))
      → ((code =? 23) ≡ true → P (with_masks s (masks_given d)))
      → ((code =? 34) ≡ true → P (with_wires s (pin_set s.wires d)))
      → P s
      → P (live_after code d s)
  unfolding live_after
  live_rows P s r9 r11 r12 r13 r14 r23 r34 other =
      when_either P _ _ _ r9 (λ _.
      when_either P _ _ _ r11 (λ _.
      when_either P _ _ _ r12 (λ _.
      when_either P _ _ _ r13 (λ _.
      when_either P _ _ _ r14 (λ _.
      when_either P _ _ _ r23 (λ _.
      when_either P _ _ _ r34 (λ _. other)))))))

  -- in the order of `effect`
  pub effect_rows : (P : Body → Type 0) (b : Body) → P (with_flash b d) → P (stored b) → P (rebooted b) → P (with_text b (cleared b.live)) → P (with_keys b (polled b.keys))
      → P (with_text b (with_shown b.live (text_written b.live.shown d)))
      → P (with_pins b (pin_read b.pins d))
      → P (with_live b (live_after code d b.live))
      → P (effect code d b)
  unfolding effect
  effect_rows P b r2 r4 r5 r6 r24 r31 r35 other =
      when_either P _ _ _ (λ _. r2) (λ _.
      when_either P _ _ _ (λ _. r4) (λ _.
      when_either P _ _ _ (λ _. r5) (λ _.
      when_either P _ _ _ (λ _. r6) (λ _.
      when_either P _ _ _ (λ _. r24) (λ _.
      when_either P _ _ _ (λ _. r31) (λ _.
      when_either P _ _ _ (λ _. r35) (λ _. other)))))))
