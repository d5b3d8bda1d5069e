-- What a study returns and leaves (Study), what holds of it (StudyRight). Private has what its private functions promise each other.
pub mod Study
pub mod StudyRight
pub mod Private
