use Rattle.std.proofs.Common.{◌≡◌, refl, replicate}
use Rattle.lists.specs.Tests.{when◌then◌else◌}
use Rattle.glyphs.specs.Source.{source_of}
use Rattle.sets.specs.Sets.{mark_for, searched}
use Rattle.panel.specs.State.{factory_settings, powered_on}
use Rattle.panel.proofs.powered_on.Goals as goal

-- no space draws a special glyph: antt computes the search
no_symbols : searched factory_settings.shown.text ≡ replicate 80 0
unfolding factory_settings source_of mark_for when◌then◌else◌
no_symbols = refl

pub returns : goal.returns
unfolding powered_on
returns c = rw (c.factory-live.ensures, c.empty.ensures, no_symbols)
