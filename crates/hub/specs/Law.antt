-- The law over lists of calls, and that tickets stand apart: document 01's third demand, for the hub; that a refused call changes nothing; what request K2 says of
-- tag lengths and verdicts, and request K4 of a check. These statements are those of `calls`, specs/Law.antt, over the definitions that the calls promise. The last
-- one is about places, which no answer shows. proofs/Law.antt proves them.
-- Assumes nothing.
use Rattle.std.specs.Prelude.{◌≡◌, ℕ, ◌<◌, List}
use Rattle.sponge.specs.Record.{vacant}
use Rattle.calls.specs.Call.{Call, final}
use Rattle.calls.specs.Checks.{most_open}
use Rattle.calls.specs.Law.{Law, Numbered, Apart, RefusedKeeps, LengthIgnored, Verdicts, CheckCloses}
use Rattle.hub.specs.Hub.{empty_hub, on_hub}
use Rattle.hub.specs.Records.{record_at}

-- so it is for every list of calls, from the empty hub
abbrev pub HubLaw : Type 0
HubLaw = (calls : List Call) → Law on_hub empty_hub calls

-- and tickets are numbered 1, 2, 3, ..
abbrev pub HubNumbered : Type 0
HubNumbered = (calls : List Call) → Numbered on_hub empty_hub calls

-- and stand apart
abbrev pub HubApart : Type 0
HubApart = Apart on_hub empty_hub

-- a refused call returns the hub as it was, whatever hub that is
abbrev pub HubRefusedKeeps : Type 0
HubRefusedKeeps = RefusedKeeps on_hub empty_hub

-- request K2: a tag length counts in mode 2 alone, whatever the hub
abbrev pub HubLengthIgnored : Type 0
HubLengthIgnored = LengthIgnored on_hub empty_hub

-- and an accepted check after any list passes exactly where the tag is the MAC of the bytes fed, of the length that the open named
abbrev pub HubVerdicts : Type 0
HubVerdicts = Verdicts on_hub empty_hub

-- request K4: an accepted check after any list also closes the ticket, and gives the count of a close
abbrev pub HubCheckCloses : Type 0
HubCheckCloses = CheckCloses on_hub empty_hub

-- A closed ticket leaves nothing of its state in the hub: after every list, a place that no ticket has holds what all places of the empty hub hold.
abbrev pub HubForgets : Type 0
HubForgets =
    (calls : List Call) (p : ℕ) → p < most_open → (record_at p (final on_hub empty_hub calls)).ticket ≡ 0 → record_at p (final on_hub empty_hub calls) ≡ vacant
