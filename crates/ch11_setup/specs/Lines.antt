-- The attributes of the setup record of a recording, group by group (RCC 106-17 Chapter 9, TMATS).
use Rattle.std.specs.Prelude.{ℕ, Bool, if◌then◌else◌, List, [], ◌∷◌, ◌++◌, codes, decimal}
use Rattle.ch11_clock.specs.declared.civil.CivilTime.{CivilTime}
use Rattle.ch11_setup.specs.Attributes.{AttributeData, attribute_of}
use Rattle.ch11_setup.specs.Dates.{date_text, date_time_text}

-- ---- the recording

-- general information: the name of the test, the format's edition, the date of the first time
-- packet, and the host, the one source of data
abbrev pub general_attributes : (test host : List ℕ) → CivilTime → List AttributeData
general_attributes test host time =
    attribute_of (codes "G\\PN") test
    ∷ attribute_of (codes "G\\106") (codes "17")
    ∷ attribute_of (codes "G\\OD") (date_text time)
    ∷ attribute_of (codes "G\\DSI\\N") (codes "1")
    ∷ attribute_of (codes "G\\DSI-1") host
    ∷ attribute_of (codes "G\\DST-1") (codes "STO")
    ∷ []

-- the recorder and its recording, which is a file of a solid-state recorder, and its first time
abbrev pub recorder_attributes : (host program : List ℕ) → CivilTime → List AttributeData
recorder_attributes host program time =
    attribute_of (codes "R-1\\ID") host
    ∷ attribute_of (codes "R-1\\RID") (codes "bpfrec")
    ∷ attribute_of (codes "R-1\\R1") program
    ∷ attribute_of (codes "R-1\\TC1") (codes "SSR")
    ∷ attribute_of (codes "R-1\\RI3") (codes "Y")
    ∷ attribute_of (codes "R-1\\RI4") (date_time_text time)
    ∷ []

-- an index by counts, or none
abbrev pub index_attributes : (is_indexed : Bool) → List AttributeData
index_attributes is_indexed =
    if is_indexed then
    attribute_of (codes "R-1\\IDX\\E") (codes "T")
    ∷ attribute_of (codes "R-1\\IDX\\IT") (codes "C")
    ∷ attribute_of (codes "R-1\\IDX\\ICV") (codes "1")
    ∷ []
    else attribute_of (codes "R-1\\IDX\\E") (codes "F") ∷ []

-- what else the file has: no bits of the secondary kind, an index or none, no events, and how many
-- data sources
abbrev pub content_attributes : (is_indexed : Bool) (sources : ℕ) → List AttributeData
content_attributes is_indexed sources =
    attribute_of (codes "R-1\\NSB") (codes "0")
    ∷ (index_attributes is_indexed
    ++ (attribute_of (codes "R-1\\EV\\E") (codes "F")
    ∷ attribute_of (codes "R-1\\N") (decimal sources)
    ∷ []))

-- ---- data sources

-- the name of the recorder's attribute of its n-th data source
abbrev pub numbered : (name : List ℕ) (n : ℕ) → List ℕ
numbered name n = codes "R-1\\" ++ (name ++ (45 ∷ decimal n))

-- the time channel, the first data source: which channel it is, and that it is enabled
abbrev pub time_source_attributes : (channel : ℕ) → List AttributeData
time_source_attributes channel =
    attribute_of (codes "R-1\\TK1-1") (decimal channel)
    ∷ attribute_of (codes "R-1\\TK4-1") (codes "1")
    ∷ attribute_of (codes "R-1\\CHE-1") (codes "T")
    ∷ attribute_of (codes "R-1\\DSI-1") (codes "TIME")
    ∷ attribute_of (codes "R-1\\CDT-1") (codes "TIMEIN")
    ∷ []

-- what times it has, and who holds the clock
abbrev pub time_format_attributes : (is_external : Bool) → List AttributeData
time_format_attributes is_external =
    attribute_of (codes "R-1\\TTF-1") (codes "1")
    ∷ attribute_of (codes "R-1\\TFMT-1") (codes "I")
    ∷ attribute_of (codes "R-1\\TSRC-1") (if is_external then codes "E" else codes "I")
    ∷ []

abbrev pub time_attributes : (channel : ℕ) (is_external : Bool) → List AttributeData
time_attributes channel is_external =
    time_source_attributes channel ++ time_format_attributes is_external

-- an Ethernet channel, the n-th data source: which channel it is, and that it is enabled
abbrev pub channel_source_attributes : (n channel : ℕ) (source : List ℕ) → List AttributeData
channel_source_attributes n channel source =
    attribute_of (numbered (codes "TK1") n) (decimal channel)
    ∷ attribute_of (numbered (codes "TK4") n) (decimal n)
    ∷ attribute_of (numbered (codes "CHE") n) (codes "T")
    ∷ attribute_of (numbered (codes "DSI") n) source
    ∷ attribute_of (numbered (codes "CDT") n) (codes "ETHIN")
    ∷ []

-- its format, its one network, and that network's number and name
abbrev pub channel_network_attributes : (n net : ℕ) (name : List ℕ) → List AttributeData
channel_network_attributes n net name =
    attribute_of (numbered (codes "ENTF") n) (codes "0")
    ∷ attribute_of (numbered (codes "NNET") n) (codes "1")
    ∷ attribute_of (numbered (codes "ENBR") n ++ codes "-1") (decimal net)
    ∷ attribute_of (numbered (codes "ENAM") n ++ codes "-1") name
    ∷ []

abbrev pub channel_attributes : (n channel net : ℕ) (source name : List ℕ) → List AttributeData
channel_attributes n channel net source name =
    channel_source_attributes n channel source ++ channel_network_attributes n net name

-- ---- a comment

-- what a reader that knows TMATS alone finds on channel 0
abbrev pub comment_attribute : AttributeData
comment_attribute =
    attribute_of (codes "R-1\\COM")
    (codes "Packets of type 0 on channel 0 with the tag CBPR hold the filter programs and the counts of bpfrec")
