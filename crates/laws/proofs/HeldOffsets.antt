-- "Device Control bit 2 set: …, reads of all offsets give 80H, data words 8080H, writes to offsets other than E have no effect", by the offset that an
-- access reaches in whatever map, and by its width.
use Rattle.std.proofs.Common.{Ok, Err, Some}
use Prim.Native.Nat.{ℕ}
use mathlib.Core.Path.{◌≡◌, refl, ap}
use mathlib.Core.Bool.{true, false, true≢false, false≢true}
use Rattle.answers.specs.declared.Refusal.{Refusal}
use Rattle.answers.specs.Answers.{refused}
use Rattle.maps.specs.declared.Port.TheVariants.{Even, Odd, Word}
use Rattle.maps.specs.declared.Target.{Target}
use Rattle.maps.specs.declared.Target.TheVariants.{Tuple, Option, Named, Data}
use Rattle.maps.proofs.Standings.{Known, stands_known}
use Rattle.registers.specs.State.{index_in}
use Rattle.registers.specs.Machine.{Machine}
use Rattle.port.specs.Data.{Effect}
use Rattle.card.specs.declared.Meaning.{Meaning}
use Rattle.card.specs.Access.{Asked, targeted, standing}
use Rattle.card.specs.Perform.{perform}
use Rattle.card.specs.Step.{step}
use Rattle.card.specs.Rows.{at_option}
use Rattle.card.proofs.Decided.{stands}
use Rattle.kept.proofs.Decided.{decided-elim, meaning-elim}
use Rattle.laws.specs.Holds.{offset_of, read_in_hold}
use Rattle.laws.proofs.Held.{meant_held_read, meant_held_data_read, meant_held_write, meant_held_data_write}
use Rattle.laws.proofs.Reached.{not_attribute}
use Rattle.laws.proofs.Elsewhere.{loses, elsewhere-elim}
use Rattle.maps.specs.Rows.{Standing}

-- ---- reads

-- what stands there is read: a byte, or a data word
stands_read : (s : Standing) (a : Asked) (m : Machine) → a.access.write ≡ false → (a.access.space ≡ 0 → ⊥) → Known a.access s → m.state.control.held ≡ true →
    let y = perform (standing s a) m in
    refused y.outcome ≡ false → y.outcome ≡ Ok (read_in_hold a.access.width)
unfolding perform
stands_read (Ok (Tuple n)) a m w c k h e = absurd (c k.0)
stands_read (Ok Option) a m w c k h e = absurd (c k.0)
stands_read (Ok (Named r)) a m w c k h e = rw (w, k.1.one) (ap (λ (y : Effect). y.outcome) (meant_held_read r m h))
stands_read (Ok (Data Even)) a m w c k h e = rw (w, k.1.one) (ap (λ (y : Effect). y.outcome) (meant_held_data_read Even m h))
stands_read (Ok (Data Odd)) a m w c k h e = rw (w, k.1.one) (ap (λ (y : Effect). y.outcome) (meant_held_data_read Odd m h))
stands_read (Ok (Data Word)) a m w c k h e = rw (w, k.1) (ap (λ (y : Effect). y.outcome) (meant_held_data_read Word m h))
stands_read (Err r) a m w c k h e = absurd (true≢false e)

-- every read that is not refused
pub held_reads : (m : Machine) (a : Asked) (o : ℕ) → offset_of m a ≡ Some o → a.access.write ≡ false → m.state.control.held ≡ true → refused (step m a).outcome ≡ false →
    (step m a).outcome ≡ Ok (read_in_hold a.access.width)
unfolding step perform
held_reads m a o r w h =
    let c = not_attribute a.access.space (index_in m.state.option) a.access.address o r in
    let P : Meaning → Type 0 = λ x. refused (perform x m).outcome ≡ false → (perform x m).outcome ≡ Ok (read_in_hold a.access.width) in
    let no : (r : Refusal) → P (Meaning.Refused r) = λ r e. absurd (true≢false e) in
    meaning-elim P m a (no _) (no _) (no _) (no _)
    (λ f s k t. decided-elim P m.state a (no _) (no _)
    (λ i e. stands_read (stands m.state a) a m w c (stands_known m.state.made.mode (index_in m.state.option) a.access _ refl) h))

-- ---- writes

target_lost : (t : Target) (a : Asked) (m : Machine) → a.access.write ≡ true → m.state.control.held ≡ true → loses t ≡ true → (perform (targeted t a) m).next ≡ m
target_lost (Tuple n) a m w h b = absurd (false≢true b)
target_lost Option a m w h b = absurd (false≢true b)
target_lost (Named r) a m w h b = rw w (ap (λ (y : Effect). y.next) (meant_held_write r _ m h b))
target_lost (Data port) a m w h b = rw w (ap (λ (y : Effect). y.next) (meant_held_data_write port a.access.value m h))

-- every write but those to offset E and to attribute 200H, accepted or refused: in whatever space, where something stands and where nothing does
pub held_writes : (m : Machine) (a : Asked) → a.access.write ≡ true → m.state.control.held ≡ true → (offset_of m a ≡ Some 0xE → ⊥) → at_option a.access.space a.access.address ≡ false →
    (step m a).next ≡ m
unfolding step perform
held_writes m a w h n b = elsewhere-elim (λ (x : Meaning). (perform x m).next ≡ m) m a w n b (λ r. refl) (λ t l. target_lost t a m w h l)
