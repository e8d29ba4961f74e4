-- 01, "When a promise is good enough": the lazy cards that the samples shut out.
use Rattle.std.specs.Prelude.{ℕ, ◌&&◌, eqb}
use Rattle.ground.specs.Choice.{pick}
use Rattle.answers.specs.declared.Refusal.{Refusal}
use Rattle.registers.specs.Status.{error_status}
use Rattle.registers.specs.Machine.{Machine}
use Rattle.port.specs.Data.{Effect, accepted, refused_with}
use Rattle.card.specs.Access.{Asked}
use Rattle.card.specs.Step.{step}
use Rattle.samples.specs.Kinds.{reads_at}
use Rattle.samples.specs.Faults.{answers_with}

-- "A card that refuses all", with whatever refusal
unfoldable pub refuses_all : Refusal → Machine → Asked → Effect
refuses_all r m a = refused_with r m

-- "one that always reads 50H"
unfoldable pub reads50_h : Machine → Asked → Effect
reads50_h m a = pick a.access.write (step m a) (answers_with 0x50 (step m a))

-- "and one that ignores writes"
unfoldable pub ignores_writes : Machine → Asked → Effect
ignores_writes m a = pick a.access.write (accepted 0 m) (step m a)

-- "A made-up Sector Count": at an error end, where Status is 51H, Sector Count reads as this number
unfoldable pub makes_up_count : ℕ → Machine → Asked → Effect
makes_up_count n m a = pick (eqb m.state.registers.status error_status && reads_at 0x2 m a) (answers_with n (step m a)) (step m a)
