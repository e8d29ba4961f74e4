-- Hosts that have their data: byte i is b i.
use Rattle.std.specs.Prelude.{ℕ, ◌+◌, ◌*◌, Bool, true, false, ◌≡◌, length}
use Rattle.maps.specs.declared.Port.{Port}
use Rattle.transfers.specs.declared.Way.{Way}
use Rattle.transfers.specs.declared.Way.TheVariants.{In, Out}
use Rattle.card.specs.declared.Meaning.{Meaning}
use Rattle.card.specs.declared.Meaning.TheVariants.{TupleByte, ReadOption, WriteOption, ReadRegister, WriteRegister, ReadData, WriteData}
use Rattle.card.specs.Access.{Asked, meaning}
use Rattle.account.specs.Notes.{Waiting, None, LowByte, HighByte, Notes}
use Rattle.account.specs.Host.{asks, Hosted}
use Rattle.hosts.specs.Choices.{Choice, access_of, Fitting}
use Rattle.hosts.specs.Hosts.{Round, onward, Going, Chosen, itself}

-- what it sends next, by the place and by what it has sent
abbrev pub next : (ℕ → ℕ) → ℕ → Waiting → Port → ℕ
next b n None Port.Even = b n
next b n None Port.Odd = b (n + 1)
next b n None Port.Word = b n + 256 * b (n + 1)
next b n (LowByte x) port = b (n + 1)
next b n (HighByte x) port = b n

abbrev pub next_of : (ℕ → ℕ) → Notes → Port → ℕ
next_of b q port = next b (length q.done) q.waiting port

-- a round that moves no data aside, and then sends its own
abbrev pub SendsBy : (ℕ → ℕ) → Way → Hosted → Round Meaning → Type 0
SendsBy b way h t =
    let k = onward itself way h t.aside in
    Going itself way h t.aside × (k.notes ≡ h.notes) × (asks k.machine ≡ true → (c : Chosen way k t.choice) × (c.value ≡ next_of b k.notes c.port))

abbrev pub Sends : (ℕ → ℕ) → Way → Hosted → Round Asked → Type 0
Sends b way h t =
    let k = onward meaning way h t.aside in
    Going meaning way h t.aside × (k.notes ≡ h.notes)
    × (asks k.machine ≡ true → (c : Choice) × (t.choice ≡ access_of way c) × Fitting way k c × (c.value ≡ next_of b k.notes c.port))

-- no data moves the command's way
abbrev pub still : Way → Meaning → Bool
still way (Meaning.Refused r) = true
still way (TupleByte b) = true
still way ReadOption = true
still way (WriteOption v) = true
still way (ReadRegister r) = true
still way (WriteRegister r v) = true
still In (ReadData port) = false
still In (WriteData port v) = true
still Out (ReadData port) = true
still Out (WriteData port v) = false
