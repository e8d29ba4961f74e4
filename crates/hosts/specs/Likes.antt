-- A host that always has a choice: the word or byte that it would like, where that can be.
use Rattle.std.specs.Prelude.{ℕ, Bool, false, ◌&&◌, List, [], ◌∷◌, eqb, leb, replicate}
use Rattle.ground.specs.Choice.{pick}
use Rattle.ground.specs.Sizes.{tuple_buffer_bytes}
use Rattle.maps.specs.declared.Mode.{Mode}
use Rattle.maps.specs.declared.Mode.TheVariants.{PcCard, TrueIde}
use Rattle.maps.specs.declared.Port.{Port}
use Rattle.registers.specs.declared.State.{State}
use Rattle.registers.specs.State.{index_in}
use Rattle.transfers.specs.declared.Way.{Way}
use Rattle.card.specs.Access.{Asked, meaning}
use Rattle.account.specs.Notes.{Waiting}
use Rattle.account.specs.Host.{Hosted}
use Rattle.hosts.specs.Live.{fits}
use Rattle.hosts.specs.Choices.{Choice, access_of}
use Rattle.hosts.specs.Hosts.{Round, onward, round}
use Rattle.hosts.specs.Sends.{next_of}

-- the odd data place is memory's, and I/O's at index 1
unfoldable pub odd_there : Mode → ℕ → Bool
odd_there TrueIde index = false
odd_there PcCard index = leb index 1

-- a word or a byte at the place that it would like, where that can be; else a byte at the even place
unfoldable pub liked : Port → Waiting → Bool → Port
liked Port.Even w odd = Port.Even
liked Port.Odd w odd = pick (odd && fits w Port.Odd) Port.Odd Port.Even
liked Port.Word w odd = pick (fits w Port.Word) Port.Word Port.Even

-- memory 000H, 009H; I/O 000H, 009H, 1F0H, 170H; True IDE 00H
unfoldable pub space_of : Mode → ℕ → ℕ
space_of TrueIde index = 3
space_of PcCard index = pick (eqb index 0) 1 2

unfoldable pub even_place : Mode → ℕ → ℕ
even_place TrueIde index = 0x00
even_place PcCard index = pick (leb index 1) 0x000 (pick (eqb index 2) 0x1F0 0x170)

abbrev pub address_of : Port → Mode → ℕ → ℕ
address_of Port.Even mode index = even_place mode index
address_of Port.Odd mode index = 0x009
address_of Port.Word mode index = even_place mode index

abbrev pub choice_at : Port → Mode → ℕ → ℕ → Choice
choice_at port mode index value = record { port = port; space = space_of mode index; address = address_of port mode index; value = value; tuples = replicate tuple_buffer_bytes 0xFF }

abbrev pub port_in : State → Port → Waiting → Port
port_in s like w = liked like w (odd_there s.made.mode (index_in s.option))

abbrev pub choice_in : (ℕ → ℕ) → Port → Hosted → Choice
choice_in b like h = choice_at (port_in h.machine.state like h.notes.waiting) h.machine.state.made.mode (index_in h.machine.state.option)
    (next_of b h.notes (port_in h.machine.state like h.notes.waiting))

-- rounds of such a host: what it would like at each, and what it does aside, which may go by all that it and the card have come to
unfoldable pub liked_rounds : Way → (ℕ → ℕ) → (Hosted → List Asked) → Hosted → List Port → List (Round Asked)
liked_rounds way b besides h [] = []
liked_rounds way b besides h (like ∷ l) =
    let t : Round Asked = record { aside = besides h; choice = access_of way (choice_in b like (onward meaning way h (besides h))) } in
    let rest = liked_rounds way b besides (onward meaning way h (round meaning way h t)) l in
    t ∷ rest
