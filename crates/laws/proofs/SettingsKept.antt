-- The option and Device Control, which only writes to them change: no command does ("90H …: buffer, geometry, index, mask kept"), and no transfer; and the
-- number of marks that are not 0, which only a stored sector changes.
use Rattle.std.proofs.Common.{Ok, Err, Some, None}
use Prim.Native.Nat.{ℕ, ◌-◌}
use mathlib.Core.Path.{◌≡◌, refl, ap, ◌∙◌}
use mathlib.Core.List.{List}
use lib.Dec.{eqb}
use Rattle.ground.specs.Left.{Left}
use Rattle.sectors.specs.Sectors.{StoreMarks}
use Rattle.ground.proofs.Picks.{pick-elim}
use Rattle.geometry.specs.Shape.{reshaped, Reshaped}
use Rattle.maps.specs.declared.Register.{Register}
use Rattle.registers.specs.declared.Pace.{Pace}
use Rattle.registers.specs.declared.Load.{Load}
use Rattle.registers.specs.declared.Load.TheVariants.{Sectors, Buffer}
use Rattle.registers.specs.declared.State.{State}
use Rattle.registers.specs.declared.Core.{Core}
use Rattle.registers.specs.State.{with_bad, total_in}
use Rattle.registers.specs.Machine.{Machine}
use Rattle.transfers.specs.declared.Order.{Order}
use Rattle.transfers.specs.declared.Order.TheVariants.{First, Later}
use Rattle.transfers.specs.declared.Way.TheVariants.{In}
use Rattle.transfers.specs.Before.{address_test, sector_test, sector_stored, Tested}
use Rattle.transfers.specs.Steps.{idle_with, sector_done, read_tested, read_sector, next_read, load_read, ask_tested, ask_sector, next_asked, core_written, load_written}
use Rattle.commands.specs.declared.Command.{Command}
use Rattle.commands.specs.declared.Command.TheVariants.{Read, Write, Verify, Erase, Identify, ReadBuffer, WriteBuffer, SetGeometry, Diagnose, Recalibrate, Seek, Sense, SetMultiple, ReadMultiple, WriteMultiple, Other}
use Rattle.commands.specs.Sweeps.{verify_run, erase_run}
use Rattle.commands.specs.Table.{command_of, count_of, obeyed, reshaped_ended, started, dropped, command_given}
use Rattle.registers.specs.Blocks.{block_size, no_block, single, pace_from, pace_after}
use Rattle.commands.specs.Blocks.{block_set, blocks_read, blocks_asked}
use Rattle.card.specs.Perform.{plain_core}
use Rattle.kept.proofs.RegisterElim.{set-elim, plain-elim}
use Rattle.kept.proofs.Sweeps.{verify_elim, erase_elim}
use Rattle.laws.specs.Settings.{Settings, settings_of}

-- the two settings, the number of marks that are not 0, and the block
pub record Steady : Type 0 where
  pub settings : Settings
  pub bad : ℕ
  pub block : ℕ

abbrev pub steady_of : State → Steady
steady_of s = record { settings = settings_of s; bad = s.bad; block = s.block }

pub same_settings : {x y : Steady} → x ≡ y → x.settings ≡ y.settings
same_settings e = ap (λ (k : Steady). k.settings) e

pub same_number : {x y : Steady} → x ≡ y → x.bad ≡ y.bad
same_number e = ap (λ (k : Steady). k.bad) e

pub same_block : {x y : Steady} → x ≡ y → x.block ≡ y.block
same_block e = ap (λ (k : Steady). k.block) e

pub done : (n : ℕ) (s : State) → steady_of (sector_done n s) ≡ steady_of s
unfolding sector_done
done n s = pick-elim (λ (x : State). steady_of x ≡ steady_of s) (eqb n 0) _ _ (λ e. refl) (λ e. refl)

-- ---- registers

pub plain : (r : Register) (v : ℕ) (k : Core) → steady_of (plain_core r v k).state ≡ steady_of k.state
plain r v k =
    plain-elim (λ (x : Core). steady_of x.state ≡ steady_of k.state) r v k refl
    (λ e h. set-elim (λ (x : State). steady_of x ≡ steady_of k.state) r v k.state refl refl (λ a. refl))

-- ---- reading

read_tested_lem : (t : Tested) (left : ℕ) (k : Pace) (m : Machine) → steady_of (read_tested t left k m).state ≡ steady_of m.state
read_tested_lem (Ok spot) left k m = refl
read_tested_lem (Err e) left k m = refl

pub read_sector_lem : (left : ℕ) (k : Pace) (m : Machine) → steady_of (read_sector left k m).state ≡ steady_of m.state
unfolding read_sector
read_sector_lem left k m = read_tested_lem (sector_test In m.state m.marks) left k m

pub load_read_lem : (l : Load) (m : Machine) → steady_of (load_read l m).state ≡ steady_of m.state
unfolding next_read
load_read_lem Buffer m = refl
load_read_lem (Sectors left k) m =
    let d = done (left - 1) m.state in
    pick-elim (λ (n : Machine). steady_of n.state ≡ steady_of m.state) (eqb (left - 1) 0) _ _ (λ e. d) (λ e. read_sector_lem (left - 1) (pace_after k) (idle_with (sector_done (left - 1) m.state) m) ∙ d)

-- ---- writing

ask_tested_lem : (t : Tested) (left : ℕ) (k : Pace) (order : Order) (s : State) → steady_of (ask_tested t left k order s).state ≡ steady_of s
ask_tested_lem (Ok spot) left k order s = refl
ask_tested_lem (Err e) left k order s = refl

pub ask_sector_lem : (left : ℕ) (k : Pace) (order : Order) (s : State) → steady_of (ask_sector left k order s).state ≡ steady_of s
unfolding ask_sector
ask_sector_lem left k order s = ask_tested_lem (address_test s) left k order s

core-written : (t : Tested) (left : ℕ) (k : Pace) (s : State) → steady_of (core_written t left k s).state ≡ steady_of s
unfolding next_asked
core-written (Ok spot) left k s =
    pick-elim (λ (k : Core). steady_of k.state ≡ steady_of s) (eqb left 0) _ _ (λ e. done left s) (λ e. ask_sector_lem left k Later (sector_done left s) ∙ done left s)
core-written (Err e) left k s = refl

-- the last byte of a sector has come: with the number that storing it leaves
pub sector-written : (left : ℕ) (p : Pace) (m : Machine) →
    let k = sector_stored m.state m.buffer m.store m.marks in steady_of (load_written (Sectors left p) m).state ≡ steady_of (with_bad k.next.bad m.state)
sector-written left p m =
    let k = sector_stored m.state m.buffer m.store m.marks in
    core-written k.outcome (left - 1) (pace_after p) (with_bad k.next.bad m.state)

pub load_written_lem : (l : Load) (m : Machine) → settings_of (load_written l m).state ≡ settings_of m.state
load_written_lem Buffer m = refl
load_written_lem (Sectors left p) m = same_settings (sector-written left p m)

pub block_written : (l : Load) (m : Machine) → (load_written l m).state.block ≡ m.state.block
block_written Buffer m = refl
block_written (Sectors left p) m = same_block (sector-written left p m)

-- ---- the command table

pub verified : (n : ℕ) (s : State) (marks : List ℕ) → steady_of (verify_run n s marks).state ≡ steady_of s
verified n s marks = verify_elim (λ (x : State). steady_of x ≡ steady_of s) (λ (k : Core). steady_of k.state ≡ steady_of s) (λ n x h. done n x ∙ h) (λ e x h. h) n s marks refl

abbrev steady : Settings → ℕ → ℕ → Steady
steady k n b = record { settings = k; bad = n; block = b }

steady_by : {a b : Settings} {n x y : ℕ} → a ≡ b → x ≡ y → steady a n x ≡ steady b n y
steady_by {b = b} {n = n} {x = x} p q = ap (λ (k : Settings). steady k n x) p ∙ ap (steady b n) q

-- with the number that it leaves
pub erased : (n : ℕ) (s : State) (store marks : List ℕ) → let e = erase_run n s store marks in steady_of e.outcome.state ≡ steady_of (with_bad e.next.bad s)
erased n s store marks =
    erase_elim (λ (x : State) (st mk : List ℕ). (settings_of x ≡ settings_of s) × (x.block ≡ s.block)) (λ (k : Left Core StoreMarks). steady_of k.outcome.state ≡ steady_of (with_bad k.next.bad s))
    (λ x st mk h. h) (λ n x st mk h. (same_settings (done n x) ∙ h.0, same_block (done n x) ∙ h.1)) (λ e x st mk h. steady_by h.0 h.1) n s store marks (refl, refl)

pub reshaped-ended : (r : Reshaped) (s : State) → steady_of (reshaped_ended r s).state ≡ steady_of s
reshaped-ended (Some g) s = refl
reshaped-ended None s = refl

pub blocks_read_lem : (n : ℕ) (m : Machine) → steady_of (blocks_read n m).state ≡ steady_of m.state
unfolding blocks_read
blocks_read_lem n m = pick-elim (λ (x : Machine). steady_of x.state ≡ steady_of m.state) (eqb m.state.block no_block) _ _ (λ e. refl) (λ e. read_sector_lem n (pace_from m.state.block) m)

pub blocks_asked_lem : (n : ℕ) (s : State) → steady_of (blocks_asked n s).state ≡ steady_of s
unfolding blocks_asked
blocks_asked_lem n s = pick-elim (λ (k : Core). steady_of k.state ≡ steady_of s) (eqb s.block no_block) _ _ (λ e. refl) (λ e. ask_sector_lem n (pace_from s.block) First s)

-- s is the state with Error and code 0
obeys : (c : Command) (s : State) (m : Machine) → settings_of s ≡ settings_of m.state → settings_of (obeyed c s m).state ≡ settings_of m.state
unfolding block_set
obeys Read s m h = same_settings (read_sector_lem (count_of s) single (idle_with s m)) ∙ h
obeys Write s m h = same_settings (ask_sector_lem (count_of s) single First s) ∙ h
obeys Verify s m h = same_settings (verified (count_of s) s m.marks) ∙ h
obeys Erase s m h = same_settings (erased (count_of s) s m.store m.marks) ∙ h
obeys Identify s m h = h
obeys ReadBuffer s m h = h
obeys WriteBuffer s m h = h
obeys SetGeometry s m h = same_settings (reshaped-ended (reshaped s.registers.count s.registers.address.head (total_in s)) s) ∙ h
obeys Diagnose s m h = h
obeys Recalibrate s m h = h
obeys Seek s m h = h
obeys Sense s m h = refl
obeys SetMultiple s m h = pick-elim (λ (k : Core). settings_of k.state ≡ settings_of m.state) (block_size s.registers.count) _ _ (λ e. h) (λ e. h)
obeys ReadMultiple s m h = same_settings (blocks_read_lem (count_of s) (idle_with s m)) ∙ h
obeys WriteMultiple s m h = same_settings (blocks_asked_lem (count_of s) s) ∙ h
obeys Other s m h = h

pub commanded : (v : ℕ) (m : Machine) → settings_of (command_given v m).state ≡ settings_of m.state
unfolding command_given
commanded v m = obeys (command_of v) (started (dropped m).state) (dropped m) refl
