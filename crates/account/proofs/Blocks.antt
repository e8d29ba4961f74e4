-- C6H: the account of the block that it sets is the machine's.
use Prim.Native.Nat.{ℕ}
use mathlib.Core.Bool.{Bool}
use mathlib.Core.Path.{◌≡◌, refl}
use mathlib.Core.List.{List}
use lib.Dec.{eqb}
use Rattle.ground.specs.Choice.{pick}
use Rattle.ground.proofs.Picks.{pick-elim, test_elim, any_of}
use Rattle.registers.specs.declared.Phase.TheVariants.{Idle}
use Rattle.registers.specs.declared.State.{State}
use Rattle.registers.specs.declared.Core.{Core}
use Rattle.registers.specs.Blocks.{block_size}
use Rattle.registers.specs.Machine.{machine, core}
use Rattle.registers.specs.State.{with_block}
use Rattle.transfers.specs.declared.End.{End}
use Rattle.transfers.specs.Ends.{ended}
use Rattle.transfers.specs.declared.Way.TheVariants.{In}
use Rattle.commands.specs.Blocks.{block_set}
use Rattle.account.specs.Numbers.{code_others}
use Rattle.account.specs.Plain.{Well, Aborted, ends, with_block as plainBlock}
use Rattle.account.specs.Table.{is_block, sets_block}
use Rattle.account.specs.Host.{plain_in}
use Rattle.account.proofs.Rest.{Ground}

same_size : (n : ℕ) → is_block n ≡ block_size n
unfolding is_block block_size
same_size n = any_of (eqb n 1) (eqb n 2) (eqb n 4) (eqb n 8) (eqb n 16)

pub block_is : (s : State) (b t k : List ℕ) → sets_block s.registers.count (plain_in s b t k) ≡ plain_in (block_set s).state b t k
unfolding sets_block block_set
block_is s b t k =
    let n = s.registers.count in
    let p = plain_in s b t k in
    rw (same_size n)
    (test_elim (λ (v : Bool). pick v (ends Well (plainBlock n p)) (ends (Aborted code_others) p) ≡ plain_in (pick v (ended End.Good (with_block n s)) (ended End.NoSuchCommand s)).state b t k) (block_size n)
    (λ e. refl) (λ e. refl))

pub block_idle : (s : State) → (block_set s).phase ≡ Idle
unfolding block_set
block_idle s = pick-elim (λ (c : Core). c.phase ≡ Idle) (block_size s.registers.count) _ _ (λ e. refl) (λ e. refl)

pub block_ground : (s : State) (b t k : List ℕ) → Ground In (machine (core Idle s) b t k) → Ground In (machine (block_set s) b t k)
unfolding block_set
block_ground s b t k g = pick-elim (λ (c : Core). Ground In (machine c b t k)) (block_size s.registers.count) _ _ (λ e. g) (λ e. g)
