-- The data port does the same to a card and to what it has in common with one that moves sectors singly.
use Rattle.std.proofs.Common.{Ok, Err, None, Some}
use Prim.Native.Nat.{ℕ, ◌-◌}
use mathlib.Core.Bool.{Bool, true, false}
use mathlib.Core.Path.{◌≡◌, refl, sym, ap}
use mathlib.Core.List.{List}
use lib.Dec.{eqb, ltb}
use Rattle.ground.specs.Sizes.{last_word}
use Rattle.ground.proofs.Picks.{test_elim, pick_of}
use Rattle.ground.specs.Choice.{pick}
use Rattle.maps.specs.declared.Port.{Port}
use Rattle.registers.specs.declared.Pace.{Pace}
use Rattle.registers.specs.declared.Load.{Load}
use Rattle.registers.specs.declared.Load.TheVariants.{Sectors, Buffer}
use Rattle.registers.specs.declared.Transfer.{Transfer}
use Rattle.registers.specs.declared.Phase.{Phase}
use Rattle.registers.specs.declared.Phase.TheVariants.{Idle, DataIn, DataOut}
use Rattle.registers.specs.declared.State.{State}
use Rattle.registers.specs.Blocks.{single, pace_after}
use Rattle.registers.specs.State.{with_interrupt, with_bad}
use Rattle.registers.specs.Machine.{Machine, machine, core, with_buffer}
use Rattle.transfers.specs.declared.Order.TheVariants.{Later}
use Rattle.transfers.specs.declared.End.TheVariants.{Good}
use Rattle.transfers.specs.Ends.{ended, reading_ended}
use Rattle.transfers.specs.declared.Order.{Order}
use Rattle.transfers.specs.declared.Way.TheVariants.{In}
use Rattle.transfers.specs.Before.{address_test, sector_test, sector_stored, Tested}
use Rattle.transfers.specs.Steps.{sector_done, read_tested, read_sector, next_read, load_read, ask_tested, ask_sector, next_asked, core_written, load_written, all_moved}
use Rattle.port.specs.Halves.{take_of, with_part, part_value, next_word, Take}
use Rattle.port.specs.declared.Fill.TheVariants.{Begun, Full}
use Rattle.port.specs.Data.{Effect, word_read, taken_read, word_written, taken_written, phase_written, phase_read, accepted, refused_with, with_phase}
use Rattle.blocks.specs.Alike.{singly, phase_singly, bare, bare_effect, transfer_singly}
use Rattle.answers.specs.declared.Refusal.TheVariants.{HalfMoved}

-- twice is once
load_twice : (l : Load) → singly (singly l) ≡ singly l
load_twice Buffer = refl
load_twice (Sectors left k) = refl

pub phase_twice : (p : Phase) → phase_singly (phase_singly p) ≡ phase_singly p
phase_twice Idle = refl
phase_twice (DataIn t) = rw (load_twice t.load)
phase_twice (DataOut t) = rw (load_twice t.load)

pub bare_twice : (m : Machine) → bare (bare m) ≡ bare m
bare_twice m = rw (phase_twice m.phase)

-- the state of what is bare
abbrev pub quiet : State → State
quiet s = with_interrupt false s

done_quiet : (n : ℕ) (s : State) → sector_done n (quiet s) ≡ quiet (sector_done n s)
unfolding sector_done
done_quiet n s = sym (pick_of quiet (eqb n 0) _ _)

-- ---- the last byte of a load, with no transfer running, by any two paces

module _ (b t k : List ℕ) where
  abbrev at : State → Machine
  at s = machine (core Idle s) b t k

  read_tested_bare : (x : Tested) (n : ℕ) (p q : Pace) (s : State) → bare (read_tested x n p (at (quiet s))) ≡ bare (read_tested x n q (at s))
  read_tested_bare (Ok spot) n p q s = refl
  read_tested_bare (Err e) n p q s = refl

  pub read_bare : (n : ℕ) (p q : Pace) (s : State) → bare (read_sector n p (at (quiet s))) ≡ bare (read_sector n q (at s))
  unfolding read_sector sector_test address_test
  read_bare n p q s = read_tested_bare (sector_test In s k) n p q s

  next_read_bare : (n : ℕ) (p q : Pace) (s : State) → bare (next_read n p (at (quiet s))) ≡ bare (next_read n q (at s))
  unfolding next_read
  next_read_bare n p q s =
      let d = sector_done n s in
      rw (done_quiet n s)
      (test_elim (λ (c : Bool). bare (pick c (at (reading_ended (quiet d)).state) (read_sector n p (at (quiet d)))) ≡ bare (pick c (at (reading_ended d).state) (read_sector n q (at d)))) (eqb n 0)
      (λ e. refl) (λ e. read_bare n p q d))

  load_read_bare : (l : Load) (s : State) → bare (load_read (singly l) (at (quiet s))) ≡ bare (load_read l (at s))
  load_read_bare Buffer s = refl
  load_read_bare (Sectors left p) s = next_read_bare (left - 1) (pace_after single) (pace_after p) s

  ask_tested_bare : (x : Tested) (n : ℕ) (p q : Pace) (order : Order) (s : State) → bare (machine (ask_tested x n p order (quiet s)) b t k) ≡ bare (machine (ask_tested x n q order s) b t k)
  ask_tested_bare (Ok spot) n p q order s = refl
  ask_tested_bare (Err e) n p q order s = refl

  pub ask_bare : (n : ℕ) (p q : Pace) (order : Order) (s : State) → bare (machine (ask_sector n p order (quiet s)) b t k) ≡ bare (machine (ask_sector n q order s) b t k)
  unfolding ask_sector address_test
  ask_bare n p q order s = ask_tested_bare (address_test s) n p q order s

  next_asked_bare : (n : ℕ) (p q : Pace) (s : State) → bare (machine (next_asked n p (quiet s)) b t k) ≡ bare (machine (next_asked n q s) b t k)
  unfolding next_asked
  next_asked_bare n p q s =
      let d = sector_done n s in
      rw (done_quiet n s)
      (test_elim (λ (c : Bool). bare (machine (pick c (ended Good (quiet d)) (ask_sector n p Later (quiet d))) b t k) ≡ bare (machine (pick c (ended Good d) (ask_sector n q Later d)) b t k)) (eqb n 0)
      (λ e. refl) (λ e. ask_bare n p q Later d))

  core_written_bare : (x : Tested) (n : ℕ) (p q : Pace) (s : State) → bare (machine (core_written x n p (quiet s)) b t k) ≡ bare (machine (core_written x n q s) b t k)
  core_written_bare (Ok spot) n p q s = next_asked_bare n p q s
  core_written_bare (Err e) n p q s = refl

load_written_bare : (l : Load) (b t k : List ℕ) (s : State) → bare (load_written (singly l) (at b t k (quiet s))) ≡ bare (load_written l (at b t k s))
unfolding sector_stored sector_test address_test
load_written_bare Buffer b t k s = refl
load_written_bare (Sectors left p) b t k s =
    let x = sector_stored s b t k in
    core_written_bare b x.next.store x.next.marks x.outcome (left - 1) (pace_after single) (pace_after p) (with_bad x.next.bad s)

-- ---- data

taken_read_bare : (x : Take) (t : Transfer) (m : Machine) → bare_effect (taken_read x (transfer_singly t) (bare m)) ≡ bare_effect (taken_read x t m)
unfolding word_read
taken_read_bare None t m = ap (refused_with HalfMoved) (bare_twice m)
taken_read_bare (Some (part, Begun)) t m = rw (load_twice t.load)
taken_read_bare (Some (part, Full)) t m =
    let v = part_value part t.words m.buffer in
    ap (accepted v)
    (test_elim (λ (c : Bool). bare (pick c (with_phase (DataIn (next_word (transfer_singly t))) (bare m)) (load_read (singly t.load) (all_moved (bare m)))) ≡ bare (pick c (with_phase (DataIn (next_word t)) m) (load_read t.load (all_moved m))))
    (ltb t.words last_word) (λ e. rw (load_twice t.load)) (λ e. load_read_bare m.buffer m.store m.marks t.load m.state))

pub phase_read_bare : (p : Phase) (port : Port) (m : Machine) → bare_effect (phase_read (phase_singly p) port (bare m)) ≡ bare_effect (phase_read p port m)
phase_read_bare Idle port m = ap (accepted _) (bare_twice m)
phase_read_bare (DataIn t) port m = taken_read_bare (take_of t.half port) t m
phase_read_bare (DataOut t) port m = ap (accepted _) (bare_twice m)

taken_written_bare : (x : Take) (v : ℕ) (t : Transfer) (m : Machine) → bare_effect (taken_written x v (transfer_singly t) (bare m)) ≡ bare_effect (taken_written x v t m)
unfolding word_written
taken_written_bare None v t m = ap (refused_with HalfMoved) (bare_twice m)
taken_written_bare (Some (part, Begun)) v t m = rw (load_twice t.load)
taken_written_bare (Some (part, Full)) v t m =
    let b = with_part part t.words v m.buffer in
    let n = with_buffer b m in
    ap (accepted 0)
    (test_elim (λ (c : Bool). bare (pick c (with_phase (DataOut (next_word (transfer_singly t))) (with_buffer b (bare m))) (load_written (singly t.load) (all_moved (with_buffer b (bare m))))) ≡ bare (pick c (with_phase (DataOut (next_word t)) n) (load_written t.load (all_moved n))))
    (ltb t.words last_word) (λ e. rw (load_twice t.load)) (λ e. load_written_bare t.load b m.store m.marks m.state))

pub phase_written_bare : (p : Phase) (port : Port) (v : ℕ) (m : Machine) → bare_effect (phase_written (phase_singly p) port v (bare m)) ≡ bare_effect (phase_written p port v m)
phase_written_bare Idle port v m = ap (accepted 0) (bare_twice m)
phase_written_bare (DataIn t) port v m = ap (accepted 0) (bare_twice m)
phase_written_bare (DataOut t) port v m = taken_written_bare (take_of t.half port) v t m

-- where Device Control holds the card nothing moves
pub held_bare : (held : Bool) (v : ℕ) (m : Machine) (x y : Effect) → bare_effect x ≡ bare_effect y → bare_effect (pick held (accepted v (bare m)) x) ≡ bare_effect (pick held (accepted v m) y)
held_bare true v m x y e = ap (accepted v) (bare_twice m)
held_bare false v m x y e = e
