-- Row 8, then what the map decides.
use Rattle.std.proofs.Common.{Err}
use mathlib.Core.Path.{◌≡◌, sym, ap}
use Rattle.ground.specs.Choice.{pick}
use Rattle.answers.specs.declared.Refusal.TheVariants.{HeldBySreset}
use Rattle.answers.proofs.Rows.{first_of_lem}
use Rattle.maps.specs.Rows.{place_table, moved, stands_at, Standing}
use Rattle.registers.specs.declared.State.{State}
use Rattle.registers.specs.State.{index_in}
use Rattle.card.specs.declared.Meaning.{Meaning}
use Rattle.card.specs.Access.{Asked, standing, held_away, place_in, decided}

abbrev pub stands : State → Asked → Standing
stands s a = stands_at s.made.mode (index_in s.option) a.access

pub decided_as : (s : State) (a : Asked) → decided s a ≡ pick (held_away s.option a.access) (Meaning.Refused HeldBySreset) (standing (stands s a) a)
unfolding decided stands_at
decided_as s a =
    ap (pick (held_away s.option a.access) (Meaning.Refused HeldBySreset))
    (sym (first_of_lem (λ (x : Standing). standing x a) (place_table (place_in s a) a.access) Err (moved (place_in s a) a.access.width)))
