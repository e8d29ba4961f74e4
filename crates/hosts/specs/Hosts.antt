-- Hosts: at each round whatever accesses they like, then a part of the data.
use Rattle.std.specs.Prelude.{ℕ, true, List, [], ◌∷◌, ◌++◌, ◌≡◌}
use Rattle.ground.specs.Choice.{pick}
use Rattle.maps.specs.declared.Port.{Port}
use Rattle.registers.specs.Machine.{Machine}
use Rattle.transfers.specs.declared.Way.{Way}
use Rattle.card.specs.declared.Meaning.{Meaning}
use Rattle.card.specs.Access.{Asked, meaning}
use Rattle.account.specs.Host.{asks, GoesBy, Hosted, hosted_by, meanings_by}
use Rattle.hosts.specs.Live.{fits, Small, data_meaning}
use Rattle.hosts.specs.Choices.{Choice, access_of, Fitting}

-- ---- rounds: of accesses, of what they mean, or of calls; `means` says what one means to the card

-- whatever the host likes, then its choice
pub record Round (A : Type 0) : Type 0 where
  pub aside : List A
  pub choice : A

module _ {A : Type 0} (means : Machine → A → Meaning) (way : Way) where
  -- the host after more of them
  abbrev pub onward : Hosted → List A → Hosted
  onward h l = hosted_by way h.machine h.notes (meanings_by means h.machine l)

  -- they are made while the card asks, none a command or a reset
  abbrev pub Going : Hosted → List A → Type 0
  Going h l = GoesBy h.machine (meanings_by means h.machine l)

  -- those of a round: the choice only if the card still asks
  abbrev pub round : Hosted → Round A → List A
  round h t = t.aside ++ pick (asks (onward h t.aside).machine) (t.choice ∷ []) []

  -- those of all rounds, as long as the card asks
  unfoldable pub rounds : Hosted → List (Round A) → List A
  rounds h [] = []
  rounds h (t ∷ l) = let rest = rounds (onward h (round h t)) l in pick (asks h.machine) (round h t ++ rest) []

  -- a host that keeps choosing: as long as the card asks, each round is ready where the host has come to with those before it
  abbrev pub Willing : (Hosted → Round A → Type 0) → Hosted → List (Round A) → Type 0
  Willing ready h [] = Unit {0}
  Willing ready h (t ∷ l) = asks h.machine ≡ true → ready h t × Willing ready (onward h (round h t)) l

-- what is meant is a part of the data that fits
pub record Chosen (way : Way) (h : Hosted) (x : Meaning) : Type 0 where
  pub port : Port
  pub value : ℕ
  pub part : x ≡ data_meaning way port value
  pub half : fits h.notes.waiting port ≡ true
  pub small : Small way port value

-- a round is ready: what is done aside is allowed, and the choice is such a part
abbrev pub itself : Machine → Meaning → Meaning
itself m x = x

abbrev pub ReadyBy : Way → Hosted → Round Meaning → Type 0
ReadyBy way h t = let k = onward itself way h t.aside in Going itself way h t.aside × (asks k.machine ≡ true → Chosen way k t.choice)

-- the same of accesses, by 01's places
abbrev pub Ready : Way → Hosted → Round Asked → Type 0
Ready way h t =
    let k = onward meaning way h t.aside in
    Going meaning way h t.aside × (asks k.machine ≡ true → (c : Choice) × (t.choice ≡ access_of way c) × Fitting way k c)
