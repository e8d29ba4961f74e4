-- A command begins: what it has stored is nothing.
use Rattle.std.proofs.Common.{Ok, Err}
use Prim.Native.Nat.{ℕ, suc, ◌-◌, ◌<◌}
use mathlib.Core.Bool.{Bool}
use mathlib.Core.Path.{◌≡◌, refl, ap, ◌∙◌}
use mathlib.Core.List.{List, []}
use native.Mathlib.Nat.{zero-add}
use Rattle.registers.specs.declared.Pace.{Pace}
use Rattle.registers.specs.Blocks.{no_block, single, pace_from}
use Rattle.commands.specs.Blocks.{blocks_asked}
use Rattle.registers.specs.State.{located_in}
use Rattle.registers.specs.Machine.{Machine, with_core}
use Rattle.commands.specs.declared.Command.{Command}
use Rattle.commands.specs.declared.Command.TheVariants.{Read, Write, Verify, Erase, Identify, ReadBuffer, WriteBuffer, SetGeometry, Diagnose, Recalibrate, Seek, Sense, SetMultiple, ReadMultiple, WriteMultiple, Other}
use Rattle.commands.specs.Table.{started, count_of, obeyed}
use Rattle.transfers.specs.declared.End.{End}
use Rattle.transfers.specs.Ends.{ended}
use Rattle.transfers.specs.declared.Order.TheVariants.{First}
use Rattle.transfers.specs.Before.{address_test}
use Rattle.transfers.specs.Steps.{ask_sector, idle_with}
use Rattle.transfers.specs.declared.Way.TheVariants.{In}
use Rattle.account.specs.Plain.{Plain, starts, Account}
use Rattle.account.specs.Addressed.{Addressed, At, Bad}
use Rattle.account.specs.CommandRows.{CommandRow, Reads, Writes, Verifies, Erases, Identifies, ReadsBuffer, WritesBuffer, SetsGeometry, Diagnoses, Recalibrates, Seeks, Senses, SetsMultiple, ReadsMultiple, WritesMultiple, Others}
use Rattle.account.specs.WholeSectors.{replaced, cleared, bad_from}
use Rattle.account.specs.Table.{asked, first}
use Rattle.account.specs.Host.{plain_of}
use Rattle.account.specs.Notes.{Notes, no_notes}
use Rattle.account.proofs.SameRow.{row_for}
use Rattle.account.proofs.Addressed.{as_addressed}
use Rattle.account.proofs.Seats.{Shaped, course_in, where_first}
use Rattle.account.proofs.Settled.{erase_idle}
use Rattle.account.proofs.Rest.{Rel}
use Rattle.account.proofs.Begins.{asked-elim}
use Rattle.account.proofs.Commands.{Given, first_is}
use Rattle.account.proofs.Given.{begins}
use Rattle.hosts.proofs.Written.{Target, Nowhere, From, Lies}
use Rattle.hosts.proofs.WrittenWord.{ask_lies}
use Rattle.hosts.proofs.WrittenKeeps.{in_lies}
use Rattle.ground.specs.Choice.{pick}
use Rattle.ground.proofs.Picks.{test_elim}
use lib.Dec.{eqb}
use Rattle.geometry.specs.Address.{Located}
use Rattle.geometry.specs.declared.BadAddress.{BadAddress}

abbrev pub target_at : Addressed → Target
target_at (At i) = From i
target_at (Bad code) = Nowhere

abbrev pub target_of : CommandRow → Plain → Target
target_of Reads p = Nowhere
target_of Writes p = target_at (first p)
target_of Verifies p = Nowhere
target_of Erases p = Nowhere
target_of Identifies p = Nowhere
target_of ReadsBuffer p = Nowhere
target_of WritesBuffer p = Nowhere
target_of SetsGeometry p = Nowhere
target_of Diagnoses p = Nowhere
target_of Recalibrates p = Nowhere
target_of Seeks p = Nowhere
target_of Senses p = Nowhere
target_of SetsMultiple p = Nowhere
target_of ReadsMultiple p = Nowhere
target_of WritesMultiple p = pick (eqb p.block 0) Nowhere (target_at (first p))
target_of Others p = Nowhere

write_begins : (n : ℕ) (pace : Pace) (m : Machine) (p : Plain) (l : Located) → p.store ≡ m.store → p.marks ≡ m.marks → p.bad ≡ m.state.bad → Shaped m.state.made m.state.current → located_in m.state ≡ l →
    Lies (target_at (as_addressed l)) p (with_core (ask_sector (suc n) pace First m.state) m) []
unfolding ask_sector address_test
write_begins n pace m p (Ok spot) s k b h e =
    unfold ask_sector address_test in
    ask_lies spot.index p n pace First (course_in m.state) spot.index m.state m.buffer m.store m.marks []
    (unfold replaced cleared in record {
      k = 0;
      size = refl;
      stored = λ j d. simp zero-add (ap (replaced spot.index j d) s);
      marked = λ j. simp zero-add (ap (cleared spot.index j) k);
      counted = λ j. simp zero-add (ap (λ (n : ℕ). n - bad_from spot.index j p.marks) b ∙ ap (λ (l : List ℕ). m.state.bad - bad_from spot.index j l) k);
    })
    (where_first m.state spot h e)
write_begins n pace m p (Err BadAddress.HeadOrSector) s k b h e = rw e tt
write_begins n pace m p (Err BadAddress.Cylinder) s k b h e = rw e tt
write_begins n pace m p (Err BadAddress.Lba) s k b h e = rw e tt

count_is : (c : ℕ) → c < 256 → (m : Machine) → m.state.registers.count ≡ c → (P : ℕ → Type 0) → ((n : ℕ) → P (suc n)) → P (count_of m.state)
unfolding count_of asked
count_is c h m e P f = unfold asked in asked-elim P m.state.registers.count (rw e h) (λ n q. f n)

read_lies : (p : Plain) (plain : List ℕ → Account) (m : Machine) (q : Notes) → Rel In plain m q → Lies Nowhere p m q.done
read_lies p plain m q y = in_lies Nowhere m.phase p m q.waiting q.done y.waits

write_lies : (pace : Pace) (m : Machine) → Given m →
    let x = idle_with (started m.state) m in Lies (target_at (first (plain_of m))) (starts (plain_of m)) (with_core (ask_sector (count_of x.state) pace First x.state) x) []
write_lies pace m h =
    let x = idle_with (started m.state) m in
    count_is _ h.1.0 x refl (λ (n : ℕ). Lies (target_at (first (plain_of m))) (starts (plain_of m)) (with_core (ask_sector n pace First x.state) x) [])
    (λ n. rw (first_is x h.0.0) (write_begins n pace x (starts (plain_of m)) (located_in x.state) refl refl refl h.0.0 refl))

pub begins_lies : (k : Command) (m : Machine) → Given m → Lies (target_of (row_for k) (plain_of m)) (starts (plain_of m)) (obeyed k (started m.state) m) []
unfolding blocks_asked
begins_lies Read m h = read_lies (starts (plain_of m)) _ (obeyed Read (started m.state) m) no_notes (begins Read m h)
begins_lies Write m h = write_lies single m h
begins_lies Verify m h = read_lies (starts (plain_of m)) _ (obeyed Verify (started m.state) m) no_notes (begins Verify m h)
begins_lies Erase m h = rw (erase_idle (count_of (started m.state)) (started m.state) m.store m.marks) tt
begins_lies Identify m h = tt
begins_lies ReadBuffer m h = tt
begins_lies WriteBuffer m h = tt
begins_lies SetGeometry m h = read_lies (starts (plain_of m)) _ (obeyed SetGeometry (started m.state) m) no_notes (begins SetGeometry m h)
begins_lies Diagnose m h = tt
begins_lies Recalibrate m h = tt
begins_lies Seek m h = tt
begins_lies Sense m h = tt
begins_lies SetMultiple m h = read_lies (starts (plain_of m)) _ (obeyed SetMultiple (started m.state) m) no_notes (begins SetMultiple m h)
begins_lies ReadMultiple m h = read_lies (starts (plain_of m)) _ (obeyed ReadMultiple (started m.state) m) no_notes (begins ReadMultiple m h)
begins_lies WriteMultiple m h =
    let s = started m.state in
    test_elim (λ (v : Bool). Lies (pick v Nowhere (target_at (first (plain_of m)))) (starts (plain_of m)) (with_core (pick v (ended End.NoSuchCommand s) (ask_sector (count_of s) (pace_from s.block) First s)) m) [])
    (eqb s.block no_block) (λ e. tt) (λ e. write_lies (pace_from s.block) m h)
begins_lies Other m h = tt
