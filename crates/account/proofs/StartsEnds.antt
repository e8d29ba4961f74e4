-- The machine starts and ends a command, and reads or writes the whole buffer, as the account does.
use Prim.Native.Nat.{ℕ}
use mathlib.Core.Path.{◌≡◌, refl, sym, ap, ◌∙◌}
use mathlib.Core.List.{List}
use lib.ListN.{take}
use Rattle.registers.specs.declared.Load.TheVariants.{Buffer}
use Rattle.registers.specs.declared.Phase.TheVariants.{DataIn, DataOut}
use Rattle.registers.specs.declared.State.{State}
use Rattle.registers.specs.Status.{data_status}
use Rattle.registers.specs.State.{with_error}
use Rattle.registers.specs.Machine.{machine}
use Rattle.transfers.specs.declared.End.{End}
use Rattle.transfers.specs.declared.Order.TheVariants.{First}
use Rattle.transfers.specs.Ends.{ended}
use Rattle.transfers.specs.Steps.{new_transfer, ready, asked_for}
use Rattle.commands.specs.Table.{started, diagnosed}
use Rattle.account.specs.Plain.{Plain, with_buffer, with_status, starts, Finish, Well, ends, silent, moving}
use Rattle.account.specs.Table.{diagnoses, senses}
use Rattle.account.specs.Host.{plain_in}
use Rattle.account.proofs.Tried.{finish_of, ended-ends}
use Rattle.account.proofs.Rest.{rest_at, rest, done_in, done_out, ends_status}

-- Error and code 0
pub started-starts : (s : State) (b t k : List ℕ) → plain_in (started s) b t k ≡ starts (plain_in s b t k)
started-starts s b t k = refl

-- a command that starts and ends, and does nothing between
pub starts-ends : (e : End) (s : State) (b t k : List ℕ) → plain_in (ended e (started s)).state b t k ≡ ends (finish_of e) (starts (plain_in s b t k))
starts-ends e s b t k = ended-ends e (started s) b t k ∙ ap (ends (finish_of e)) (started-starts s b t k)

-- 90H
pub diagnosed_is : (s : State) (b t k : List ℕ) → plain_in (ended End.Good (diagnosed s)).state b t k ≡ diagnoses (plain_in s b t k)
diagnosed_is s b t k = ended-ends End.Good (diagnosed s) b t k

-- 03H: Error is the last code, which stays
pub sensed_is : (s : State) (b t k : List ℕ) → plain_in (ended End.Good (with_error s.code s)).state b t k ≡ senses (plain_in s b t k)
sensed_is s b t k = ended-ends End.Good (with_error s.code s) b t k

-- ---- the buffer

-- of a transfer just begun all is left: the whole buffer to be read, 512 bytes to be written
buffer_in : (p : Plain) (d : List ℕ) → rest_at (DataIn (new_transfer Buffer)) p d ≡ moving p.buffer (silent (ends Well p))
unfolding rest_at done_in
buffer_in p d = refl

buffer_out : (p : Plain) (d : List ℕ) → rest_at (DataOut (new_transfer Buffer)) p d ≡ moving (take 512 d) (silent (ends Well (with_buffer (take 512 d) p)))
unfolding rest_at done_out
buffer_out p d = refl

-- its Status is 58H, which its end does not keep
begun_ends : (e : Finish) (s : State) (b t k : List ℕ) → ends e (with_status data_status (plain_in (started s) b t k)) ≡ ends e (starts (plain_in s b t k))
begun_ends e s b t k =
    ap (λ (p : Plain). ends e (with_status data_status p)) (started-starts s b t k)
    ∙ ends_status e data_status (starts (plain_in s b t k))

-- E4H, and ECH once its bytes are in the buffer
pub buffer_read_lem : (s : State) (b t k d : List ℕ) → moving b (silent (ends Well (starts (plain_in s b t k)))) ≡ rest (machine (ready Buffer (started s)) b t k) d
buffer_read_lem s b t k d = ap (λ (p : Plain). moving b (silent p)) (sym (begun_ends Well s b t k)) ∙ sym (buffer_in (plain_in (ready Buffer (started s)).state b t k) d)

-- E8H
pub buffer_written : (s : State) (b t k d : List ℕ) →
    moving (take 512 d) (silent (ends Well (with_buffer (take 512 d) (starts (plain_in s b t k))))) ≡ rest (machine (asked_for Buffer First (started s)) b t k) d
buffer_written s b t k d =
    ap (λ (p : Plain). moving (take 512 d) (silent p)) (sym (begun_ends Well s (take 512 d) t k))
    ∙ sym (buffer_out (plain_in (asked_for Buffer First (started s)).state b t k) d)
