-- Row 9 speaks of "a byte write above 255": what a read answers and leaves never depends on the value that came with it.
use Rattle.std.proofs.Common.{Ok, Err}
use Prim.Native.Nat.{ℕ}
use mathlib.Core.Path.{◌≡◌, refl, sym, ap, ◌∙◌}
use mathlib.Core.Bool.{false}
use Rattle.ground.specs.Choice.{pick}
use Rattle.ground.specs.Rows.{first_of}
use Rattle.answers.specs.declared.Refusal.TheVariants.{HeldBySreset}
use Rattle.maps.specs.declared.Target.TheVariants.{Tuple, Option, Named, Data}
use Rattle.maps.specs.Rows.{with_value, Standing}
use Rattle.maps.proofs.ReadValue.{read_value}
use Rattle.registers.specs.declared.State.{State}
use Rattle.registers.specs.State.{index_in}
use Rattle.registers.specs.Machine.{Machine}
use Rattle.card.specs.declared.Meaning.{Meaning}
use Rattle.card.specs.Access.{Asked, asked_with, standing, held_away, lent_table, decided, meaning}
use Rattle.card.specs.Perform.{perform}
use Rattle.card.specs.Step.{step}
use Rattle.card.proofs.Decided.{stands, decided_as}
use Rattle.card.proofs.Verdicts.{meaning_as}

-- what is asked with another value, all else the same
abbrev valued : ℕ → Asked → Asked
valued v a = asked_with (with_value v a.access) a.tuples

standing_read : (s : Standing) (v : ℕ) (a : Asked) → a.access.write ≡ false → standing s (valued v a) ≡ standing s a
standing_read (Ok (Tuple n)) v a e = refl
standing_read (Ok Option) v a e = rw e
standing_read (Ok (Named r)) v a e = rw e
standing_read (Ok (Data port)) v a e = rw e
standing_read (Err r) v a e = refl

decided_read : (s : State) (v : ℕ) (a : Asked) → a.access.write ≡ false → decided s (valued v a) ≡ decided s a
unfolding held_away
decided_read s v a e =
    let x = ap (λ (k : Standing). standing k (valued v a)) (read_value s.made.mode (index_in s.option) v a.access e) ∙ standing_read (stands s a) v a e in
    decided_as s (valued v a) ∙ ap (pick (held_away s.option a.access) (Meaning.Refused HeldBySreset)) x ∙ sym (decided_as s a)

-- a read means the same
pub read_means : (m : Machine) (a : Asked) (v : ℕ) → a.access.write ≡ false → meaning m (asked_with (with_value v a.access) a.tuples) ≡ meaning m a
read_means m a v e =
    meaning_as m (valued v a)
    ∙ ap (first_of (lent_table m.phase m.state m.store m.marks a.tuples) Meaning.Refused) (decided_read m.state v a e)
    ∙ sym (meaning_as m a)

-- and so it answers and leaves the same: outcome and machine
pub read_value_free : (m : Machine) (a : Asked) (v : ℕ) → a.access.write ≡ false → step m (asked_with (with_value v a.access) a.tuples) ≡ step m a
unfolding step
read_value_free m a v e = ap (λ (x : Meaning). perform x m) (read_means m a v e)
