-- The store and the marks that are lent to a machine, and the number of marks that are not 0 as it keeps it, together.
use Rattle.sectors.specs.Sectors.{StoreMarks, store_marks}
use Rattle.registers.specs.Machine.{Machine}

abbrev pub store_marks_in : Machine → StoreMarks
store_marks_in m = store_marks m.store m.marks m.state.bad
