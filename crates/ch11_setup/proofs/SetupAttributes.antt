-- Each line of a setup record is an attribute.
use Rattle.std.proofs.Common.{ℕ, ◌+◌, ◌/◌, ◌%◌, ◌^◌, ◌<◌, ◌≡◌, ◌==◌, ◌&&◌, not, nat_lt, Bool, true, false, cond, inl, inr, map, List, []}
use Rattle.std.proofs.Common.{◌∷◌, ◌++◌, length, drop, take, refl, arith, codes, decimal, pos}
use Rattle.std.specs.List.{AllByRecursion, list_all}
use Rattle.std.specs.Str.Parse.{AllDigits}
use Rattle.std.proofs.lemmas.Bool.{and_parts, cases_Bool}
use Rattle.std.proofs.lemmas.Bool.Decides.{nat_tests}
use Rattle.std.proofs.lemmas.Fmt.{decimal_is_IsNumeral}
use Rattle.std.proofs.lemmas.Str.Parse.{digit_from_value}
use Rattle.jiff_core.proofs.CalendarLemmas.{days_in_month_bounds}
use Rattle.ch11_clock.specs.declared.civil.CivilTime.{CivilTime}
use Rattle.ch11_clock.specs.CivilTime.{IsCivilTime}
use Rattle.ch11_setup.specs.declared.setup.Setup.{Setup}
use Rattle.ch11_setup.specs.declared.setup.SetupChannel.{SetupChannel}
use Rattle.ch11_setup.specs.declared.attribute.Attribute.{Attribute}
use Rattle.ch11_setup.specs.Attributes.{AttributeData, attribute_of, Lacks, IsAttribute, AreAttributes}
use Rattle.ch11_setup.specs.Names.{cleaned, source_name}
use Rattle.ch11_setup.specs.Dates.{two_digits, date_text, day_time_text, date_time_text}
use Rattle.ch11_setup.specs.Lines.{general_attributes, recorder_attributes, content_attributes, numbered, time_attributes, channel_attributes}
use Rattle.ch11_setup.specs.Lines.{comment_attribute, index_attributes}
use Rattle.ch11_setup.specs.Setups.{given_attribute, given_attributes, is_test_name, test_name}
use Rattle.ch11_setup.specs.Setups.{channels_attributes, recording_attributes, source_attributes, setup_attributes, IsSetupChannel, IsSetup}
use Rattle.ch11_setup.proofs.CleanedNames.{all_append, name_lacks_semicolons}

-- ---- bytes that lack another one

abbrev lacks : ℕ → List ℕ → Bool
lacks mark bytes = list_all (λ byte. not (byte == mark)) bytes

lacks_by : (mark : ℕ) (bytes : List ℕ) → lacks mark bytes ≡ true → Lacks mark bytes
lacks_by mark [] h = tt
lacks_by mark (byte ∷ bytes) h =
    let both = and_parts (not (byte == mark)) (list_all (λ byte. not (byte == mark)) bytes) h in
    (grind (arith, nat_tests, both), lacks_by mark bytes both.1)

lacks_append : (mark : ℕ) (front rest : List ℕ) → Lacks mark front → Lacks mark rest → Lacks mark (front ++ rest)
lacks_append mark front rest a b = all_append (λ byte. (byte == mark) ≡ false) front rest a b

-- a colon or a semicolon is no digit
digits_lack : (mark : ℕ) (digits : List ℕ) → 57 < mark → AllDigits 10 digits → Lacks mark digits
digits_lack mark [] h are = tt
digits_lack mark (digit ∷ digits) h are =
    (let within = digit_from_value digit are.0 in grind (arith, nat_tests, within), digits_lack mark digits h are.1)

decimal_lacks : (mark n : ℕ) → 57 < mark → n < 2 ^ 64 → Lacks mark (decimal n)
decimal_lacks mark n h small = digits_lack mark (decimal n) h (decimal_is_IsNumeral n small).0.1

two_lack : (number : ℕ) → number < 100 → Lacks 59 (two_digits number)
two_lack number small = (grind (arith, nat_tests), (grind (arith, nat_tests), tt))

dash_lacks : (rest : List ℕ) → Lacks 59 rest → Lacks 59 (45 ∷ rest)
dash_lacks rest are = (refl, are)

date_lacks : (time : CivilTime) → IsCivilTime time → Lacks 59 (date_text time)
date_lacks time is =
    let days = days_in_month_bounds (pos time.year) time.month in
    let day = is.day_in in
    let month = is.month_in in
    let year = is.year_in in
    let year_digits = two_digits (time.year / 100) ++ two_digits (time.year % 100) in
    let day_digits = two_digits time.day ++ (45 ∷ year_digits) in
    lacks_append 59 (two_digits time.month) (45 ∷ day_digits) (two_lack time.month (omega (arith, month))) (dash_lacks day_digits
    (lacks_append 59 (two_digits time.day) (45 ∷ year_digits) (two_lack time.day (omega (arith, days, day))) (dash_lacks year_digits
    (lacks_append 59 (two_digits (time.year / 100)) (two_digits (time.year % 100)) (two_lack (time.year / 100) (omega (arith, year)))
    (two_lack (time.year % 100) (omega arith))))))

date_time_lacks : (time : CivilTime) → IsCivilTime time → Lacks 59 (date_time_text time)
date_time_lacks time is =
    let hour = is.hour_in in
    let minute = is.minute_in in
    let second = is.second_in in
    let minute_digits = two_digits time.minute ++ (45 ∷ two_digits time.second) in
    lacks_append 59 (date_text time) (45 ∷ day_time_text time) (date_lacks time is) (dash_lacks (day_time_text time)
    (lacks_append 59 (two_digits time.hour) (45 ∷ minute_digits) (two_lack time.hour (omega (arith, hour))) (dash_lacks minute_digits
    (lacks_append 59 (two_digits time.minute) (45 ∷ two_digits time.second) (two_lack time.minute (omega (arith, minute)))
    (dash_lacks (two_digits time.second) (two_lack time.second (omega (arith, second))))))))

-- ---- an attribute

abbrev is_name : List ℕ → Bool
is_name name = nat_lt 0 (length name) && (lacks 58 name && lacks 59 name)

-- one whose name is a constant
named : (name value : List ℕ) → is_name name ≡ true → Lacks 59 value → IsAttribute (attribute_of name value)
named name value h are =
    let both = and_parts (nat_lt 0 (length name)) (lacks 58 name && lacks 59 name) h in
    let marks = and_parts (lacks 58 name) (lacks 59 name) both.1 in
    record {
      some = grind (arith, nat_tests, both);
      name = lacks_by 58 name marks.0;
      name_ends = lacks_by 59 name marks.1;
      value = are;
    }

constant : (name value : List ℕ) → is_name name ≡ true → lacks 59 value ≡ true → IsAttribute (attribute_of name value)
constant name value h k = named name value h (lacks_by 59 value k)

-- one of the n-th data source
numbered_lacks : (mark : ℕ) (name : List ℕ) (n : ℕ) → 57 < mark → n < 2 ^ 64 → lacks mark (codes "R-1\\") ≡ true → lacks mark name ≡ true
    → Lacks mark (numbered name n)
numbered_lacks mark name n h small front are =
    lacks_append mark (codes "R-1\\") (name ++ (45 ∷ decimal n)) (lacks_by mark (codes "R-1\\") front)
    (lacks_append mark name (45 ∷ decimal n) (lacks_by mark name are) (grind (arith, nat_tests), decimal_lacks mark n h small))

some_bytes : (byte : ℕ) (bytes : List ℕ) → 0 < length (byte ∷ bytes)
some_bytes byte bytes = omega arith

of_source : (name value : List ℕ) (n : ℕ) → n < 2 ^ 64 → lacks 58 name ≡ true → lacks 59 name ≡ true → Lacks 59 value
    → IsAttribute (attribute_of (numbered name n) value)
of_source name value n small colon semicolon are = record {
  some = some_bytes 82 (drop 1 (numbered name n));
  name = numbered_lacks 58 name n (omega arith) small refl colon;
  name_ends = numbered_lacks 59 name n (omega arith) small refl semicolon;
  value = are;
}

of_network : (name value : List ℕ) (n : ℕ) → n < 2 ^ 64 → lacks 58 name ≡ true → lacks 59 name ≡ true → Lacks 59 value
    → IsAttribute (attribute_of (numbered name n ++ codes "-1") value)
of_network name value n small colon semicolon are = record {
  some = some_bytes 82 (drop 1 (numbered name n ++ codes "-1"));
  name = lacks_append 58 (numbered name n) (codes "-1") (numbered_lacks 58 name n (omega arith) small refl colon) (lacks_by 58 (codes "-1") refl);
  name_ends = lacks_append 59 (numbered name n) (codes "-1") (numbered_lacks 59 name n (omega arith) small refl semicolon) (lacks_by 59 (codes "-1") refl);
  value = are;
}

-- ---- groups

are_append : (attributes others : List AttributeData) → AreAttributes attributes → AreAttributes others → AreAttributes (attributes ++ others)
are_append attributes others are also = all_append IsAttribute attributes others are also

general_are : (test host : List ℕ) (time : CivilTime) → Lacks 59 test → Lacks 59 host → IsCivilTime time
    → AreAttributes (general_attributes test host time)
general_are test host time said lack is = (
  named _ _ refl said,
  (
    constant _ _ refl refl,
    (
      named _ _ refl (date_lacks time is),
      (
        constant _ _ refl refl,
        (
          named _ _ refl lack,
          (
            constant _ _ refl refl,
            tt,
          ),
        ),
      ),
    ),
  ),
)

recorder_are : (host program : List ℕ) (time : CivilTime) → Lacks 59 host → Lacks 59 program → IsCivilTime time
    → AreAttributes (recorder_attributes host program time)
recorder_are host program time lack also is = (
  named _ _ refl lack,
  (
    constant _ _ refl refl,
    (
      named _ _ refl also,
      (
        constant _ _ refl refl,
        (
          constant _ _ refl refl,
          (
            named _ _ refl (date_time_lacks time is),
            tt,
          ),
        ),
      ),
    ),
  ),
)

index_are : (is_indexed : Bool) → AreAttributes (index_attributes is_indexed)
index_are true = (constant _ _ refl refl, (constant _ _ refl refl, (constant _ _ refl refl, tt)))
index_are false = (constant _ _ refl refl, tt)

content_are : (is_indexed : Bool) (sources : ℕ) → sources < 2 ^ 64 → AreAttributes (content_attributes is_indexed sources)
content_are is_indexed sources small = (
  constant _ _ refl refl,
  are_append (index_attributes is_indexed)
      (attribute_of (codes "R-1\\EV\\E") (codes "F") ∷ attribute_of (codes "R-1\\N") (decimal sources) ∷ []) (index_are is_indexed)
      (constant _ _ refl refl, (named _ _ refl (decimal_lacks 59 sources (omega arith) small), tt)),
)

time_are : (channel : ℕ) (is_external : Bool) → channel < 2 ^ 64 → AreAttributes (time_attributes channel is_external)
time_are channel is_external small = (
  named _ _ refl (decimal_lacks 59 channel (omega arith) small),
  (
    constant _ _ refl refl,
    (
      constant _ _ refl refl,
      (
        constant _ _ refl refl,
        (
          constant _ _ refl refl,
          (
            constant _ _ refl refl,
            (
              constant _ _ refl refl,
              (
                named _ _ refl (source is_external),
                tt,
              ),
            ),
          ),
        ),
      ),
    ),
  ),
)
  where
    source : (is_external : Bool) → Lacks 59 (cond is_external (codes "E") (codes "I"))
    source true = (refl, tt)
    source false = (refl, tt)

channel_are : (n channel net : ℕ) (source name : List ℕ) → n < 2 ^ 64 → channel < 2 ^ 64 → net < 2 ^ 64 → Lacks 59 source → Lacks 59 name
    → AreAttributes (channel_attributes n channel net source name)
channel_are n channel net source name small id its lack also = (
  of_source (codes "TK1") _ n small refl refl (decimal_lacks 59 channel (omega arith) id),
  (
    of_source (codes "TK4") _ n small refl refl (decimal_lacks 59 n (omega arith) small),
    (
      of_source (codes "CHE") _ n small refl refl (refl, tt),
      (
        of_source (codes "DSI") _ n small refl refl lack,
        (
          of_source (codes "CDT") _ n small refl refl (lacks_by 59 (codes "ETHIN") refl),
          (
            of_source (codes "ENTF") _ n small refl refl (refl, tt),
            (
              of_source (codes "NNET") _ n small refl refl (refl, tt),
              (
                of_network (codes "ENBR") _ n small refl refl (decimal_lacks 59 net (omega arith) its),
                (
                  of_network (codes "ENAM") _ n small refl refl also,
                  tt,
                ),
              ),
            ),
          ),
        ),
      ),
    ),
  ),
)

channels_are : (n : ℕ) (channels : List SetupChannel) → n + length channels < 2 ^ 64 → AllByRecursion IsSetupChannel channels
    → AreAttributes (channels_attributes n channels)
channels_are n [] small are = tt
channels_are n (channel ∷ channels) small are =
    let id = are.0.id_in in
    let net = are.0.net_in in
    are_append (channel_attributes n channel.id channel.net (source_name channel.name.now channel.id) (cleaned channel.name.now))
    (channels_attributes (n + 1) channels)
    (channel_are n channel.id channel.net (source_name channel.name.now channel.id) (cleaned channel.name.now) (omega (arith, small))
    (omega (arith, id)) (omega (arith, net)) (name_lacks_semicolons (take 24 (cleaned channel.name.now) ++ (32 ∷ decimal channel.id)))
    (name_lacks_semicolons channel.name.now))
    (channels_are (n + 1) channels (omega (arith, small)) are.1)

-- ---- what a user adds

test_lacks : (attributes : List Attribute) → AreAttributes (map given_attribute attributes) → Lacks 59 (test_name attributes)
test_lacks [] are = lacks_by 59 (codes "bpfrec") refl
test_lacks (attribute ∷ attributes) are = elim (cases_Bool (is_test_name attribute)) as (λ _. Lacks 59 (test_name (attribute ∷ attributes))) [
  | inl on ↦ rw on are.0.value
  | inr off ↦ rw off (test_lacks attributes are.1)
]

given_are : (attributes : List Attribute) → AreAttributes (map given_attribute attributes) → AreAttributes (given_attributes attributes)
given_are [] are = tt
given_are (attribute ∷ attributes) are = elim (cases_Bool (is_test_name attribute)) as (λ _. AreAttributes (given_attributes (attribute ∷ attributes))) [
  | inl on ↦ rw on (given_are attributes are.1)
  | inr off ↦ rw off (are.0, given_are attributes are.1)
]

-- ---- all

pub setup_are : (setup : Setup) → IsSetup setup → AreAttributes (setup_attributes setup)
setup_are setup is =
    let host = cleaned setup.host.now in
    let program = cleaned setup.program.now in
    let number = is.number in
    let channel = is.time_channel in
    let test = test_name setup.attributes.now in
    let general = general_attributes test host setup.time in
    let recorder = recorder_attributes host program setup.time in
    let content = content_attributes setup.is_indexed (length setup.channels.now + 1) in
    let time = time_attributes setup.time_channel setup.is_external in
    let channels = channels_attributes 2 setup.channels.now in
    let rest = comment_attribute ∷ given_attributes setup.attributes.now in
    let recording =
    are_append general (recorder ++ content) (general_are test host setup.time (test_lacks setup.attributes.now is.given)
    (name_lacks_semicolons setup.host.now) is.time)
    (are_append recorder content
    (recorder_are host program setup.time (name_lacks_semicolons setup.host.now) (name_lacks_semicolons setup.program.now) is.time)
    (content_are setup.is_indexed (length setup.channels.now + 1) (omega (arith, number)))) in
    let sources =
    are_append time channels (time_are setup.time_channel setup.is_external (omega (arith, channel)))
    (channels_are 2 setup.channels.now (omega (arith, number)) is.channels) in
    are_append (recording_attributes setup) (source_attributes setup ++ rest) recording
    (are_append (source_attributes setup) rest sources (constant _ _ refl refl, given_are setup.attributes.now is.given))
