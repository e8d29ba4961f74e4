-- Identify as a host reads it gives 0, whatever the card and however it is read; and its word 129 is the number of bad sectors.
use Prim.Native.Nat.{ℕ, ◌/◌, ◌%◌}
use mathlib.Core.Path.{◌≡◌, sym, ap, subst, ◌∙◌}
use mathlib.Core.List.{List, [], ◌++◌, append-nil}
use lib.ListN.{set, get_or}
use Rattle.identify.specs.declared.Facts.{Facts}
use Rattle.identify.specs.Words.{identify_bytes}
use Rattle.identify.proofs.Bytes.{identify_length, word_129}
use Rattle.identify.proofs.GivesZero.{one_wrong_byte, identify_gives_zero, identify_low}
use Rattle.registers.specs.Machine.{Machine}
use Rattle.commands.specs.Table.{command_of, started, facts_of, dropped, command_given}
use Rattle.card.specs.Access.{Asked}
use Rattle.card.specs.Step.{step}
use Rattle.account.specs.Plain.{Account}
use Rattle.account.specs.CommandRows.{CommandRow, Identifies, row_of}
use Rattle.account.specs.Words.{summed, identify_data}
use Rattle.account.specs.Intact.{Intact}
use Rattle.account.specs.Table.{account}
use Rattle.account.specs.Host.{plain_of, Hosted, Moves}
use Rattle.account.specs.Claim.{AllBytes, Agrees}
use Rattle.account.specs.Follows.{Able, AcceptedCommand, after}
use Rattle.account.proofs.LastWord.{summed_is}
use Rattle.account.proofs.Identifying.{identify_is, identify_bytes_lem}
use Rattle.account.proofs.Accepted.{given, able}
use Rattle.account.proofs.Theorem.{agreed}

-- taken when ECH is written (D184): the buffer that the command leaves, whatever the card value
pub ech_gives_zero : (m : Machine) → (summed (command_given 0xEC m).buffer ≡ 0) × (get_or (command_given 0xEC m).buffer 510 0 ≡ 0xA5)
unfolding command_given command_of
ech_gives_zero m =
    let f = facts_of (started (dropped m).state) in
    (summed_is (identify_bytes f) ∙ identify_gives_zero f, identify_low f)

-- 02, "Eight": and word 129 is the number of marks that are not 0, as the card keeps it then
pub ech_tells_bad : (m : Machine) → (get_or (command_given 0xEC m).buffer 258 0 ≡ m.state.bad % 256) × (get_or (command_given 0xEC m).buffer 259 0 ≡ m.state.bad / 256)
unfolding command_given command_of
ech_tells_bad m = word_129 (facts_of (started (dropped m).state))

intact_bytes : (f : Facts) → AllBytes (identify_bytes f) → Intact (identify_bytes f)
intact_bytes f a =
    let d = identify_bytes f in
    let z = identify_gives_zero f in
    record {
      all = identify_length f;
      low = identify_low f;
      zero = summed_is d ∙ z;
      only = λ i b l n e. one_wrong_byte d i b (rw (identify_length f) l) (a i) n (sym (summed_is (set d i b)) ∙ e ∙ sym z);
    }

-- the account's bytes, of every card that can be given a command
pub account-intact : (m : Machine) → Able m → Intact (identify_data (plain_of m))
account-intact m k =
    let h = given m k in
    let e = identify_is m.state m.buffer m.store m.marks h.0.0.1 in
    subst Intact e (intact_bytes (facts_of m.state) (subst AllBytes (sym e) (identify_bytes_lem (plain_of m) h.4 h.5 h.6 h.7 h.8 h.9 h.10)))

-- so those that a host has read, however it read them
pub agrees-intact : (m : Machine) (v : ℕ) (h : Hosted) → Able m → row_of v ≡ Identifies → Agrees (account (row_of v) (plain_of m)) h → Intact h.notes.done
unfolding account
agrees-intact m v h k e g =
    let p = plain_of m in
    let d = h.notes.done in
    let read : identify_data p ++ [] ≡ d = sym (ap (λ (r : CommandRow). (account r p d).moved) e) ∙ ap (λ (x : Account). x.moved) g.account in
    subst Intact (sym (append-nil (identify_data p)) ∙ read) (account-intact m k)

pub identify_read_intact : (m : Machine) (a : Asked) (v : ℕ) (l : List Asked) → AcceptedCommand m a v → row_of v ≡ Identifies → Moves (step m a).next l → Intact (after m a v l).notes.done
identify_read_intact m a v l w e x = agrees-intact m v (after m a v l) (able m a v w) e (agreed m a v l w x)
