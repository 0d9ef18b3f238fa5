-- What an answer of success or error says.
use Rattle.std.specs.Prelude.{Result, Ok, Err, OnErr}

pub on_err : {T E P : Type 0} (r : Result T E) → P → OnErr r P
on_err (Ok value) holds = tt
on_err (Err error) holds = holds
